-- A walk over calls, callees first.
use Rattle.std.proofs.Common.{◌≡◌, ℕ, zero, suc, ◌<◌, ◌≤◌, Bool, true, false, List, [], ◌∷◌, ◌++◌, length, get_or, Option, Some, None, refl, sym, ap, ◌∙◌, subst, arith, append_assoc}
use Rattle.std.specs.Prelude.{◌==◌, if◌then◌else◌, All, slice_get}
use Rattle.std.proofs.lemmas.List.{append-nil, get_or-map}
use Rattle.std.proofs.lemmas.List.Elements.{All-get_or, All-head, All-tail}
use Rattle.std.proofs.lemmas.Option.{slice_get_within, slice_get-get_or, get_or_from_slice_get}
use Rattle.high_ir.specs.Formed.{IsHigh, RanksFall}
use Rattle.high_ir.specs.Runs.{rank_or}
use Rattle.high_ir.specs.Standing.{callees_of}
use Rattle.high_ir.specs.Tree.{End, Function, Program, Seq}
use Rattle.low_ir.specs.Effects.{is_member}
use Rattle.lower_definition.specs.Calls.{behind_callees, order, place_in, visited, visited_all}
use Rattle.lower_origins.proofs.Members.{member_back, member_first, member_front, place_front, same_test, splits}
use Rattle.lower_origins.specs.Orders.{AreAmong, IsBehind, IsClosed, IsOrdered}

among_at : (seen gs : List ℕ) (g : ℕ) → AreAmong seen gs → is_member gs g ≡ true → is_member seen g ≡ true
among_at seen [] g h e = cc
among_at seen (x ∷ gs) g h e = by_test (x == g) refl e (λ f. among_at seen gs g h.1 f)
  where
    by_test : (b : Bool) → (x == g) ≡ b → (if b then true else is_member gs g) ≡ true → (is_member gs g ≡ true → is_member seen g ≡ true) → is_member seen g ≡ true
    by_test true t e go = subst (λ y. is_member seen y ≡ true) (same_test x g t) h.0
    by_test false t e go = go e

-- a closed list goes on closed
closed_append : (fs : List Function) (seen xs ys : List ℕ) → IsClosed fs seen xs → IsClosed fs (seen ++ xs) ys → IsClosed fs seen (xs ++ ys)
closed_append fs seen [] ys h k = subst (λ s. IsClosed fs s ys) (append-nil seen) k
closed_append fs seen (x ∷ xs) ys h k = (h.0, closed_append fs (seen ++ x ∷ []) xs ys h.1 (subst (λ s. IsClosed fs s ys) (sym (append_assoc seen (x ∷ []) xs)) k))

-- the rank of a function that is there
pub rank_is : (fs : List Function) (g n : ℕ) (h : Function) → slice_get fs g ≡ Some h → rank_or fs g n ≡ h.rank
rank_is fs g n h e =
    let inside = slice_get_within fs g h e in
    get_or-map (λ (x : Function). x.rank) fs g h n inside ∙ ap (λ (x : Function). x.rank) (get_or_from_slice_get fs g h h e)

-- a callee whose rank falls is there
pub record Callee (fs : List Function) (g n : ℕ) : Type 0 where
  pub function : Function
  pub there : slice_get fs g ≡ Some function
  pub lower : function.rank < n

rank_past : (fs : List Function) (g n : ℕ) → slice_get fs g ≡ None → rank_or fs g n ≡ n
rank_past [] g n e = refl
rank_past (x ∷ fs) zero n e = cc
rank_past (x ∷ fs) (suc g) n e = rank_past fs g n e

pub callee_there : (fs : List Function) (g n : ℕ) → rank_or fs g n < n → Callee fs g n
callee_there fs g n low = by_get (slice_get fs g) refl
  where
    by_get : (o : Option Function) → slice_get fs g ≡ o → Callee fs g n
    by_get (Some h) e = let is = rank_is fs g n h e in record { function = h; there = e; lower = omega (arith, is, low) }
    by_get None e = let past = rank_past fs g n e in absurd (omega (arith, past, low))

module _ (p : Program) (high : IsHigh p) where
  abbrev fs : List Function
  fs = p.functions

  pub falls : (f : ℕ) (h : Function) → slice_get fs f ≡ Some h → RanksFall fs h
  falls f h e =
      let inside = slice_get_within fs f h e in
      subst (RanksFall fs) (get_or_from_slice_get fs f h h e) (All-get_or (RanksFall fs) fs f h inside high.ranks)

  -- what a walk makes of a closed list: a longer one that is closed, with the function in it
  record Went (done : List ℕ) (f : ℕ) (result : List ℕ) : Type 0 where
    more : List ℕ
    is : result ≡ done ++ more
    closed : IsClosed fs [] result
    found : is_member result f ≡ true

  record WentAll (done gs result : List ℕ) : Type 0 where
    more : List ℕ
    is : result ≡ done ++ more
    closed : IsClosed fs [] result
    among : AreAmong result gs

  -- a walk over each of some functions
  all_visited : (n : ℕ) (gs : List ℕ) (bound : ℕ) → ((g : ℕ) (done : List ℕ) (h : Function) → slice_get fs g ≡ Some h → h.rank < n → IsClosed fs [] done → Went done g (visited fs n g done)) → All (λ g. rank_or fs g bound < bound) gs → bound ≤ n → (done : List ℕ) → IsClosed fs [] done → WentAll done gs (visited_all (visited fs n) gs done)
  all_visited n [] bound visit all low done closed = record { more = []; is = sym (append-nil done); closed = closed; among = tt }
  all_visited n (g ∷ gs) bound visit all low done closed =
      let c = callee_there fs g bound (All-head (λ g. rank_or fs g bound < bound) g gs all) in
      let lower = c.lower in
      let a = visit g done c.function c.there (omega (arith, lower, low)) closed in
      let next = visited fs n g done in
      let b = all_visited n gs bound visit (All-tail (λ g. rank_or fs g bound < bound) g gs all) low next a.closed in
      let result = visited_all (visited fs n) gs next in
      record {
        more = a.more ++ b.more;
        is = b.is ∙ ap (λ xs. xs ++ b.more) a.is ∙ append_assoc done a.more b.more;
        closed = b.closed;
        among = (subst (λ xs. is_member xs g ≡ true) (sym b.is) (member_front next b.more g a.found), b.among);
      }

  visits : (n f : ℕ) (done : List ℕ) (h : Function) → slice_get fs f ≡ Some h → h.rank < n → IsClosed fs [] done → Went done f (visited fs n f done)
  visits zero f done h e low closed = absurd (omega (arith, low))
  visits (suc n) f done h e low closed = by_test (is_member done f) refl (λ g d k e2 low2 c. visits n g d k e2 low2 c)
    where
      by_test : (b : Bool) → is_member done f ≡ b → ((g : ℕ) (d : List ℕ) (k : Function) → slice_get fs g ≡ Some k → k.rank < n → IsClosed fs [] d → Went d g (visited fs n g d)) → Went done f (if b then done else behind_callees (visited fs n) f (slice_get fs f) done)
      by_test true t visit = record { more = []; is = sym (append-nil done); closed = closed; found = t }
      by_test false t visit =
          let gs = callees_of h.body in
          let a = all_visited n gs h.rank visit (falls f h e) (omega (arith, low)) done closed in
          let before = visited_all (visited fs n) gs done in
          let same : before ++ f ∷ [] ≡ behind_callees (visited fs n) f (slice_get fs f) done = ap (λ o. behind_callees (visited fs n) f o done) (sym e) in
          let last : IsBehind fs before f = record { function = h; there = e; callees = a.among } in
          subst (Went done f) same (record {
            more = a.more ++ f ∷ [];
            is = ap (λ xs. xs ++ f ∷ []) a.is ∙ append_assoc done a.more (f ∷ []);
            closed = closed_append fs [] before (f ∷ []) a.closed (last, tt);
            found = member_back before (f ∷ []) f (member_first f []);
          })

  seam : (xs : List ℕ) (f : ℕ) (ys : List ℕ) → slice_get (xs ++ f ∷ ys) (length xs) ≡ Some f
  seam [] f ys = refl
  seam (x ∷ xs) f ys = seam xs f ys

  behind_at : (seen xs : List ℕ) (f : ℕ) (ys : List ℕ) → IsClosed fs seen (xs ++ f ∷ ys) → IsBehind fs (seen ++ xs) f
  behind_at seen [] f ys h = subst (λ s. IsBehind fs s f) (sym (append-nil seen)) h.0
  behind_at seen (x ∷ xs) f ys h = subst (λ s. IsBehind fs s f) (append_assoc seen (x ∷ []) xs) (behind_at (seen ++ x ∷ []) xs f ys h.1)

  main_there : (h : Function) → slice_get fs p.main ≡ Some h → Went [] p.main (order p)
  main_there h e =
      let is = rank_is fs p.main 0 h e in
      visits (suc (rank_or fs p.main 0)) p.main [] h e (omega (arith, is)) tt

  abbrev main_function : Function
  main_function = get_or fs p.main (record { values = 0; arrays = 0; locals = 0; rank = 0; body = Seq End })

  pub ordered : IsOrdered p
  ordered =
      let w = main_there main_function (slice_get-get_or fs p.main (record { values = 0; arrays = 0; locals = 0; rank = 0; body = Seq End }) high.main) in
      record {
        main = w.found;
        places = λ f e.
            let s = splits (order p) f e in
            let closed : IsClosed fs [] (s.before ++ f ∷ s.behind) = subst (IsClosed fs []) s.is w.closed in
            let b = behind_at [] s.before f s.behind closed in
            record {
              function = b.function;
              there = b.there;
              number = ap (slice_get (order p)) s.place ∙ ap (λ xs. slice_get xs (length s.before)) s.is ∙ seam s.before f s.behind;
              called = λ g called.
                  let seen = among_at s.before (callees_of b.function.body) g b.callees called in
                  let place = s.place in
                  let low = place_front s.before (f ∷ s.behind) g seen in
                  let same : place_in (order p) g ≡ place_in (s.before ++ f ∷ s.behind) g = ap (λ xs. place_in xs g) s.is in
                  (ap (λ xs. is_member xs g) s.is ∙ member_front s.before (f ∷ s.behind) g seen, omega (arith, low, same, place));
            };
      }
