-- No function stands twice in the order of the low program.
use Rattle.std.proofs.Common.{◌≡◌, ℕ, zero, suc, ◌<◌, ◌≤◌, Bool, true, false, List, [], ◌∷◌, ◌++◌, get_or, Some, refl, sym, ap, ◌∙◌, subst, ⊎_elim, inl, inr, arith}
use Rattle.std.specs.Prelude.{◌⊎◌, ◌==◌, if◌then◌else◌, All, slice_get}
use Rattle.std.proofs.lemmas.List.Elements.{All-head, All-tail}
use Rattle.std.proofs.lemmas.Option.{same_Some, slice_get-get_or}
use Rattle.high_ir.specs.Formed.{IsHigh}
use Rattle.high_ir.specs.Runs.{rank_or}
use Rattle.high_ir.specs.Standing.{callees_of}
use Rattle.high_ir.specs.Tree.{Function, Program, Seq, End}
use Rattle.low_ir.specs.Effects.{is_member}
use Rattle.lower_definition.specs.Calls.{behind_callees, order, place_in, visited, visited_all}
use Rattle.lower_origins.proofs.Members.{member_first, member_more, same_test}
use Rattle.lower_origins.proofs.Visits.{callee_there, falls, rank_is}

abbrev pub Distinct : List ℕ → Type 0
Distinct [] = Unit {0}
Distinct (x ∷ xs) = (is_member xs x ≡ false) × Distinct xs

-- a member of two lists, one behind the other
member_parts : (xs ys : List ℕ) (g : ℕ) → is_member (xs ++ ys) g ≡ true → (is_member xs g ≡ true) ⊎ (is_member ys g ≡ true)
member_parts [] ys g e = inr e
member_parts (x ∷ xs) ys g e = by_test (x == g) e (λ k. member_parts xs ys g k)
  where
    by_test : (b : Bool) → (if b then true else is_member (xs ++ ys) g) ≡ true → (is_member (xs ++ ys) g ≡ true → (is_member xs g ≡ true) ⊎ (is_member ys g ≡ true)) → ((if b then true else is_member xs g) ≡ true) ⊎ (is_member ys g ≡ true)
    by_test true e go = inl refl
    by_test false e go = go e

only_one : (f g : ℕ) → is_member (f ∷ []) g ≡ true → f ≡ g
only_one f g e = by_test (f == g) refl e
  where
    by_test : (b : Bool) → (f == g) ≡ b → (if b then true else false) ≡ true → f ≡ g
    by_test true t e = same_test f g t
    by_test false t e = cc

no_member : (b : Bool) → (b ≡ true → ⊥) → b ≡ false
no_member true h = absurd (h refl)
no_member false h = refl

distinct_end : (xs : List ℕ) (f : ℕ) → Distinct xs → (is_member xs f ≡ true → ⊥) → Distinct (xs ++ f ∷ [])
distinct_end [] f h other = (refl, tt)
distinct_end (x ∷ xs) f h other = (
  no_member (is_member (xs ++ f ∷ []) x) (λ e. ⊎_elim
      (λ (k : is_member xs x ≡ true). let same : false ≡ true = sym h.0 ∙ k in cc)
      (λ (k : is_member (f ∷ []) x ≡ true). other (subst (λ y. is_member (x ∷ xs) y ≡ true) (sym (only_one f x k)) (member_first x xs)))
      (member_parts xs (f ∷ []) x e)),
  distinct_end xs f h.1 (λ e. other (later (x == f) e)),
)
  where
    later : (b : Bool) → is_member xs f ≡ true → (if b then true else is_member xs f) ≡ true
    later true e = refl
    later false e = e

-- what stands at an index is a member
pub member_at : (xs : List ℕ) (i f : ℕ) → slice_get xs i ≡ Some f → is_member xs f ≡ true
member_at [] i f e = cc
member_at (x ∷ xs) zero f e = subst (λ z. is_member (x ∷ xs) z ≡ true) (same_Some x f e) (member_first x xs)
member_at (x ∷ xs) (suc i) f e = member_more x xs f (member_at xs i f e)

-- the place of what stands at an index
pub distinct_place : (xs : List ℕ) (i f : ℕ) → Distinct xs → slice_get xs i ≡ Some f → place_in xs f ≡ i
distinct_place [] i f h e = cc
distinct_place (x ∷ xs) zero f h e = ap (λ b. if b then 0 else suc (place_in xs f)) (subst (λ y. (x == y) ≡ true) (same_Some x f e) (same x))
  where
    same : (x : ℕ) → (x == x) ≡ true
    same x = by_test (x == x) (member_first x [])
      where
        by_test : (b : Bool) → (if b then true else false) ≡ true → b ≡ true
        by_test true e = refl
        by_test false e = cc
distinct_place (x ∷ xs) (suc i) f h e = by_test (x == f) refl (distinct_place xs i f h.1 e)
  where
    by_test : (b : Bool) → (x == f) ≡ b → place_in xs f ≡ i → (if b then 0 else suc (place_in xs f)) ≡ suc i
    by_test true t k =
        let no : is_member xs f ≡ false = subst (λ y. is_member xs y ≡ false) (same_test x f t) h.0 in
        let yes : false ≡ true = sym no ∙ member_at xs i f e in
        cc
    by_test false t k = ap suc k

module _ (p : Program) (high : IsHigh p) where
  abbrev fs : List Function
  fs = p.functions

  abbrev rank : ℕ → ℕ
  rank g = rank_or fs g 0

  -- what a walk adds to a list is of low rank
  record Kept (done result : List ℕ) (bound : ℕ) : Type 0 where
    distinct : Distinct result
    members : (g : ℕ) → is_member result g ≡ true → (is_member done g ≡ true) ⊎ (rank g < bound)

  all_kept : (n : ℕ) (gs : List ℕ) (bound : ℕ) → ((g : ℕ) (done : List ℕ) (h : Function) → slice_get fs g ≡ Some h → h.rank < n → Distinct done → Kept done (visited fs n g done) (suc h.rank)) → All (λ g. rank_or fs g bound < bound) gs → bound ≤ n → (done : List ℕ) → Distinct done → Kept done (visited_all (visited fs n) gs done) bound
  all_kept n [] bound visit all low done h = record { distinct = h; members = λ g e. inl e }
  all_kept n (g ∷ gs) bound visit all low done h =
      let c = callee_there fs g bound (All-head (λ g. rank_or fs g bound < bound) g gs all) in
      let lower = c.lower in
      let a = visit g done c.function c.there (omega (arith, lower, low)) h in
      let b = all_kept n gs bound visit (All-tail (λ g. rank_or fs g bound < bound) g gs all) low (visited fs n g done) a.distinct in
      record {
        distinct = b.distinct;
        members = λ x e. ⊎_elim
            (λ (k : is_member (visited fs n g done) x ≡ true).
            ⊎_elim (λ (m : is_member done x ≡ true). inl m) (λ (m : rank x < suc c.function.rank). inr (omega (arith, m, lower))) (a.members x k))
            (λ (k : rank x < bound). inr k) (b.members x e);
      }

  kept : (n f : ℕ) (done : List ℕ) (h : Function) → slice_get fs f ≡ Some h → h.rank < n → Distinct done → Kept done (visited fs n f done) (suc h.rank)
  kept zero f done h e low d = absurd (omega (arith, low))
  kept (suc n) f done h e low d = by_test (is_member done f) refl (λ g x k e2 low2 y. kept n g x k e2 low2 y)
    where
      by_test : (b : Bool) → is_member done f ≡ b → ((g : ℕ) (x : List ℕ) (k : Function) → slice_get fs g ≡ Some k → k.rank < n → Distinct x → Kept x (visited fs n g x) (suc k.rank)) → Kept done (if b then done else behind_callees (visited fs n) f (slice_get fs f) done) (suc h.rank)
      by_test true t visit = record { distinct = d; members = λ g m. inl m }
      by_test false t visit =
          let gs = callees_of h.body in
          let a = all_kept n gs h.rank visit (falls p high f h e) (omega (arith, low)) done d in
          let before = visited_all (visited fs n) gs done in
          let is : rank f ≡ h.rank = rank_is fs f 0 h e in
          let same : before ++ f ∷ [] ≡ behind_callees (visited fs n) f (slice_get fs f) done = ap (λ o. behind_callees (visited fs n) f o done) (sym e) in
          subst (λ xs. Kept done xs (suc h.rank)) same (record {
            distinct = distinct_end before f a.distinct (λ m. ⊎_elim
                (λ (k : is_member done f ≡ true). let no : false ≡ true = sym t ∙ k in cc)
                (λ (k : rank f < h.rank). absurd (omega (arith, k, is))) (a.members f m));
            members = λ g m. ⊎_elim
                (λ (k : is_member before g ≡ true). ⊎_elim (λ (x : is_member done g ≡ true). inl x) (λ (x : rank g < h.rank). inr (omega (arith, x))) (a.members g k))
                (λ (k : is_member (f ∷ []) g ≡ true). let at = ap rank (only_one f g k) in inr (omega (arith, at, is)))
                (member_parts before (f ∷ []) g m);
          })

  pub order_distinct : Distinct (order p)
  order_distinct =
      let d : Function = record { values = 0; arrays = 0; locals = 0; rank = 0; body = Seq End } in
      let h = get_or fs p.main d in
      let e : slice_get fs p.main ≡ Some h = slice_get-get_or fs p.main d high.main in
      let is = rank_is fs p.main 0 h e in
      let k = kept (suc (rank_or fs p.main 0)) p.main [] h e (omega (arith, is)) tt in
      k.distinct
