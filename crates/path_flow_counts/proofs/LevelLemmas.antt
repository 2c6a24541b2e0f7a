-- The levels of a system, one function after the other, and how each comes back from the one behind it.
use Rattle.std.proofs.Common.{◌≡◌, ◌≢◌, ℕ, zero, suc, ◌+◌, ◌≤◌, ◌<◌, ℤ, pos, arith, refl, sym, ap, ◌∙◌, subst, List, [], ◌∷◌, ◌++◌, length, drop, get_or, Contains, inl, inr, ◌⊎◌, Bool, true, false, cond, Some, length-append, get_or-set_other}
use Rattle.std.specs.Prelude.{◌&&◌, ◌||◌, not, min, nat_le, nat_lt, slice_set}
use Rattle.std.proofs.lemmas.Bool.Decides.{eqb_tells, nat_tests}
use Rattle.std.proofs.lemmas.Grind.{get_or-set_at}
use Rattle.std.proofs.Math.ListN.{replicate}
use Rattle.std.proofs.lemmas.List.{length-replicate}
use Rattle.std.proofs.lemmas.List.Elements.{All-contains}
use Rattle.code_flow_system.specs.declared.claims.LoopClaim.{LoopClaim}
use Rattle.code_flow_system.specs.declared.shapes.LoopShape.{LoopShape}
use Rattle.code_flow_system.specs.declared.shapes.Span.{Span}
use Rattle.code_flow_system.specs.Systems.{System, has_moves}
use Rattle.code_flow_system.specs.Shapes.{IsInSpan, AreApart, AreAllApart, is_back}
use Rattle.loop_walks.specs.declared.step.Step.{Step}
use Rattle.loop_walks.specs.declared.step.Loop.{Loop}
use Rattle.loop_walks.specs.Walks.{worth_at}
use Rattle.loop_walks.specs.Levels.{Level, level_of, ground}
use Rattle.loop_walks.specs.Rows.{Each, IsBack, AreLoops}
use Rattle.loop_walks.proofs.EachLemmas.{each_map}
use Rattle.loop_walks.proofs.WalkLemmas.{relaxed-long, relaxed_other}
use Rattle.loop_walks.proofs.LevelLemmas.{Held, weighed-long}
use Rattle.loop_walks.proofs.UntouchedLemmas.{Avoids, settled_untouched}
use Rattle.path_places.specs.Reached.{in_span}
use Rattle.path_places.specs.Places.{place_of, is_stop, is_walked, loop_of, loops_of}
use Rattle.path_places.specs.PlaceLaws.{function_steps, IsReachedWhole}
use Rattle.path_places.proofs.PlaceLemmas.{place_up, place_above, place_within}
use Rattle.path_places.proofs.RankLemmas.{span_of}
use Rattle.path_places.proofs.LoopLemmas.{steps_each, has_of}
use Rattle.path_places.proofs.FunctionLemmas.{walked_in}
use Rattle.path_places.specs.Driver.{Prices, blank, function_loops, function_level, function_pairs, functions_level}
use Rattle.path_places.proofs.DriverLemmas.{fits_function, none_yet, function_holds, zero_at}
use Rattle.path_flows.specs.Flows.{function_ground}
use Rattle.path_walks.specs.Functions.{IsFunction}
use Rattle.path_walks.specs.Sizes.{AllStaySmall}
use Rattle.path_flow_counts.specs.Puts.{IsPut}

next : (i : ℕ) → suc i ≡ i + 1
next i = omega arith

-- ---- numbers that are put

pub put_start : (from : ℕ) (z : ℤ) (old : List ℤ) → IsPut from from z old old
put_start from z old = record { inside = λ a ge lt. absurd (omega (arith, ge, lt)); outside = λ a o. refl }

pub put_next : (from place : ℕ) (z : ℤ) (old now new : List ℤ) → from ≤ place → place < length now → new ≡ slice_set now place z → IsPut from place z old now → IsPut from (place + 1) z old new
put_next from place z old now new le lt e h = record {
  inside = λ a ge below. inside a ge below;
  outside = λ a o. ap (λ ws. worth_at ws a) e ∙ (get_or-set_other now place a z (pos 0) (λ q. not_here a o q) ∙ h.outside a (wider a o));
}
  where
    inside : (a : ℕ) → from ≤ a → a < place + 1 → worth_at new a ≡ z
    inside a ge below = elim (eqb_tells a place) [
      | inl i ↦ ap (λ ws. worth_at ws a) e ∙ get_or-set_at now place a z (pos 0) i.1 lt
      | inr d ↦ let n = d.1 in ap (λ ws. worth_at ws a) e ∙ (get_or-set_other now place a z (pos 0) n ∙ h.inside a ge (omega (arith, below, n)))
    ]

    not_here : (a : ℕ) → (a < from) ⊎ (place + 1 ≤ a) → a ≡ place → ⊥
    not_here a o q = elim o [ inl x ↦ absurd (omega (arith, x, q, le)) | inr x ↦ absurd (omega (arith, x, q)) ]

    wider : (a : ℕ) → (a < from) ⊎ (place + 1 ≤ a) → (a < from) ⊎ (place ≤ a)
    wider a o = elim o [ inl x ↦ inl x | inr x ↦ inr (omega (arith, x)) ]

pub put_end : (from place to : ℕ) (z : ℤ) (old new : List ℤ) → to ≤ place → (place ≤ to) ⊎ (place ≡ from) → IsPut from place z old new → IsPut from to z old new
put_end from place to z old new le ended h = elim ended [
  | inl x ↦ let e : place ≡ to = omega (arith, le, x) in subst (λ k. IsPut from k z old new) e h
  | inr x ↦ record {
    inside = λ a ge lt. absurd (omega (arith, ge, lt, le, x));
    outside = λ a o. h.outside a (everywhere a x (nat_lt a from) refl);
  }
]
  where
    everywhere : (a : ℕ) → place ≡ from → (t : Bool) → nat_lt a from ≡ t → (a < from) ⊎ (place ≤ a)
    everywhere a x true e = inl (is_lt a from e)
      where
        is_lt : (x y : ℕ) → nat_lt x y ≡ true → x < y
        is_lt x y e = grind (arith, nat_tests)
    everywhere a x false e = inr (let n = not_lt a from e in omega (arith, n, x))
      where
        not_lt : (x y : ℕ) → nat_lt x y ≡ false → y ≤ x
        not_lt x y e = grind (arith, nat_tests)

same_lists : (xs ys : List ℤ) → length xs ≡ length ys → ((a : ℕ) → worth_at xs a ≡ worth_at ys a) → xs ≡ ys
same_lists [] [] long h = refl
same_lists [] (y ∷ ys) long h = absurd (omega (arith, long))
same_lists (x ∷ xs) [] long h = absurd (omega (arith, long))
same_lists (x ∷ xs) (y ∷ ys) long h = ap (λ (z : ℤ). z ∷ xs) (h 0) ∙ ap (λ zs. y ∷ zs) (same_lists xs ys (omega (arith, long)) (λ a. h (suc a)))

-- what was changed at these places alone, and there is put back
pub put_back : (from to : ℕ) (z : ℤ) (was now new : List ℤ) → length new ≡ length was → ((a : ℕ) → from ≤ a → a < to → worth_at was a ≡ z) → ((a : ℕ) → (a < from) ⊎ (to ≤ a) → worth_at now a ≡ worth_at was a) → IsPut from to z now new → new ≡ was
put_back from to z was now new long own others h = same_lists new was long (λ a. at a (by_from a))
  where
    by_from : (a : ℕ) → ((a < from) ⊎ (to ≤ a)) ⊎ ((from ≤ a) × (a < to))
    by_from a = decide (nat_lt a from) (nat_lt a to) refl refl
      where
        is_lt : (x y : ℕ) → nat_lt x y ≡ true → x < y
        is_lt x y e = grind (arith, nat_tests)

        not_lt : (x y : ℕ) → nat_lt x y ≡ false → y ≤ x
        not_lt x y e = grind (arith, nat_tests)

        decide : (t u : Bool) → nat_lt a from ≡ t → nat_lt a to ≡ u → ((a < from) ⊎ (to ≤ a)) ⊎ ((from ≤ a) × (a < to))
        decide true u e f = inl (inl (is_lt a from e))
        decide false true e f = inr (not_lt a from e, is_lt a to f)
        decide false false e f = inl (inr (not_lt a to f))

    at : (a : ℕ) → ((a < from) ⊎ (to ≤ a)) ⊎ ((from ≤ a) × (a < to)) → worth_at new a ≡ worth_at was a
    at a k = elim k [
      | inl o ↦ h.outside a o ∙ others a o
      | inr i ↦ h.inside a i.0 i.1 ∙ sym (own a i.0 i.1)
    ]

-- ---- the level before a function by its number

module _ (s : System) (ls : List LoopShape) (q : Prices) where
  abbrev pub level_at : Level → List Span → ℕ → Level
  level_at v [] i = v
  level_at v (r ∷ rs) zero = v
  level_at v (r ∷ rs) (suc i) = level_at (function_level s ls q v r) rs i

  pub level_after : (v : Level) (rs : List Span) (i : ℕ) (d : Span) → i < length rs → level_at v rs (i + 1) ≡ function_level s ls q (level_at v rs i) (get_or rs i d)
  level_after v [] i d lt = absurd (omega arith)
  level_after v (r ∷ []) zero d lt = refl
  level_after v (r ∷ (k ∷ rs)) zero d lt = refl
  level_after v (r ∷ rs) (suc i) d lt = let e : suc i + 1 ≡ suc (i + 1) = omega arith in ap (level_at v (r ∷ rs)) e ∙ level_after (function_level s ls q v r) rs i d (omega (arith, lt))

  pub level_end : (v : Level) (rs : List Span) (i : ℕ) → length rs ≤ i → level_at v rs i ≡ functions_level s ls q v rs
  level_end v [] i le = refl
  level_end v (r ∷ rs) zero le = absurd (omega arith)
  level_end v (r ∷ rs) (suc i) le = level_end (function_level s ls q v r) rs i (omega (arith, le))

  pub begins : (v : Level) (rs : List Span) → level_at v rs 0 ≡ v
  begins v [] = refl
  begins v (r ∷ rs) = refl

-- the steps of a function begin at its places
pub own_steps : (s : System) (ls : List LoopShape) (q : Prices) (ws : List ℤ) (p : Span) → Each (λ k. (place_of s.moves p.first ≤ k.at) × (k.at < place_of s.moves p.end)) (function_steps s ls q.of ws p)
own_steps s ls q ws p = steps_each (λ k. (place_of s.moves p.first ≤ k.at) × (k.at < place_of s.moves p.end)) q.of s.moves ws (is_walked s.claims ls p) s.moves
    (λ m im w. let i = walked_in p (not (is_stop s.claims m.at || is_back ls m.at)) m.at w in (place_up s.moves p.first m.at i.from, place_above s.moves m.at p.end (has_of s.moves m im) i.below))

-- ---- the places of a function

abbrev pub EachLoop : (Loop → Type 0) → List Loop → Type 0
EachLoop P [] = Unit {0}
EachLoop P (l ∷ ls) = P l × EachLoop P ls

module _ (s : System) (ls : List LoopShape) (ps : List Span) (whole : IsReachedWhole s ls ps) (q : Prices) where
  abbrev pub start_of : Span → ℕ
  start_of p = place_of s.moves p.first

  abbrev pub end_of : Span → ℕ
  end_of p = place_of s.moves p.end

  abbrev pub IsOut : Span → ℕ → Type 0
  IsOut p a = (a < start_of p) ⊎ (end_of p ≤ a)

  abbrev IsOwn : Span → Loop → Type 0
  IsOwn p l = (start_of p ≤ l.header) × (l.end ≤ end_of p)

  own_loops : (p : Span) (ms : List Step) (cs : List LoopClaim) (ks : List LoopShape) → EachLoop (IsOwn p) (loops_of q.of q.low s.moves s.claims p ms cs ks)
  own_loops p ms [] ks = tt
  own_loops p ms (c ∷ cs) [] = tt
  own_loops p ms (c ∷ cs) (k ∷ ks) = by_test (in_span p k.header) refl (has_moves s.moves k.header) (own_loops p ms cs ks)
    where
      less : (a b : ℕ) → min a b ≤ b
      less a b = omega arith

      by_test : (t : Bool) → in_span p k.header ≡ t → (u : Bool) → EachLoop (IsOwn p) (loops_of q.of q.low s.moves s.claims p ms cs ks) →
          EachLoop (IsOwn p) (cond (t && u) (loop_of q.of q.low s.moves s.claims p ms c k ∷ loops_of q.of q.low s.moves s.claims p ms cs ks) (loops_of q.of q.low s.moves s.claims p ms cs ks))
      by_test true e true r = ((place_up s.moves p.first k.header (span_of p k.header e).from, less (place_of s.moves (k.last + 1)) (end_of p)), r)
      by_test true e false r = r
      by_test false e u r = r

  no_own_step : (ws : List ℤ) (p : Span) (a : ℕ) → IsOut p a → Each (λ k. k.at ≢ a) (function_steps s ls q.of ws p)
  no_own_step ws p a out = each_map (λ k. (start_of p ≤ k.at) × (k.at < end_of p)) (λ k. k.at ≢ a) (function_steps s ls q.of ws p) (λ k i e. elim out [
    | inl x ↦ let i0 = i.0 in absurd (omega (arith, i0, x, e))
    | inr x ↦ let i1 = i.1 in absurd (omega (arith, i1, x, e))
  ]) (own_steps s ls q ws p)

  avoids : (p : Span) (a : ℕ) → IsOut p a → (ms : List Step) (rs : List Loop) → AreLoops (length s.moves) ms rs → EachLoop (IsOwn p) rs → Avoids a rs
  avoids p a out ms [] fits own = tt
  avoids p a out ms (l ∷ rs) fits own = (
    away l.header (own.0.0) (let r = fits.0.range.0 in let e = own.0.1 in omega (arith, r, e)),
    λ b is. let k : IsBack l ms (Some b) = subst (λ o. IsBack l ms o) is fits.0.back in
        let k0 = k.0 in let k1 = k.1 in let o0 = own.0.0 in let o1 = own.0.1 in away b (omega (arith, k0, o0)) (omega (arith, k1, o1)),
    avoids p a out ms rs fits.2 own.1,
  )
    where
      away : (b : ℕ) → start_of p ≤ b → b < end_of p → b ≢ a
      away b ge lt e = elim out [ inl x ↦ absurd (omega (arith, ge, x, e)) | inr x ↦ absurd (omega (arith, lt, x, e)) ]

  -- a function leaves the places of others as they are, and so does its walk to the ends
  pub leaves_others : (v : Level) (p : Span) (a : ℕ) → Contains ps p → (a < place_of s.moves p.first) ⊎ (place_of s.moves p.end ≤ a) → (worth_at (function_level s ls q v p).worths a ≡ worth_at v.worths a) × (worth_at (function_level s ls q v p).weights a ≡ worth_at v.weights a)
  leaves_others v p a ip out = settled_untouched q.low (function_steps s ls q.of v.worths p) a (no_own_step v.worths p a out) v (function_loops s ls q v.worths p)
      (avoids p a out (function_steps s ls q.of v.worths p) (function_loops s ls q v.worths p) (fits_function s ls ps whole q v.worths p ip).1 (own_loops p (function_steps s ls q.of v.worths p) s.claims.loops ls))

  pub walk_leaves_others : (v : Level) (p : Span) (a : ℕ) → (a < place_of s.moves p.first) ⊎ (place_of s.moves p.end ≤ a) → worth_at (function_ground s ls q v p).worths a ≡ worth_at v.worths a
  walk_leaves_others v p a out = relaxed_other (function_ground s ls q v p).weights v.worths (function_steps s ls q.of v.worths p) a (no_own_step v.worths p a out)

  -- ---- a level before some functions

  abbrev pub IsBlankIn : Level → Span → Type 0
  IsBlankIn v p = (a : ℕ) → start_of p ≤ a → a < end_of p → (worth_at v.worths a ≡ q.low) × (worth_at v.weights a ≡ pos 0)

  pub record Before (v : Level) (rs : List Span) : Type 0 where
    pub within : (r : Span) → Contains rs r → Contains ps r
    pub apart : AreAllApart rs
    pub small : AllStaySmall s ls q v rs
    pub long_worths : length v.worths ≡ suc (length s.moves)
    pub long_weights : length v.weights ≡ suc (length s.moves)
    pub blank_in : (r : Span) → Contains rs r → IsBlankIn v r

  pub before_all : AllStaySmall s ls q (blank (length s.moves) q.low) ps → Before (blank (length s.moves) q.low) ps
  before_all small = record {
    within = λ r h. h;
    apart = whole.fits.apart;
    small = small;
    long_worths = let a = length-append (replicate (length s.moves) q.low) (pos 0 ∷ []) in let b = length-replicate (length s.moves) q.low in omega (arith, a, b);
    long_weights = let b = length-replicate (length s.moves + 1) (pos 0) in omega (arith, b);
    blank_in = λ r h a ge lt. (low_at (length s.moves) a (let w = place_within s.moves r.end in omega (arith, w, lt)), zero_at (length s.moves + 1) a);
  }
    where
      low_at : (n a : ℕ) → a < n → worth_at (replicate n q.low ++ pos 0 ∷ []) a ≡ q.low
      low_at zero a lt = absurd (omega arith)
      low_at (suc n) zero lt = refl
      low_at (suc n) (suc a) lt = low_at n a (omega (arith, lt))

  module _ (v : Level) (r : Span) (rs : List Span) (b : Before v (r ∷ rs)) where
    is_one : Contains ps r
    is_one = b.within r (zero, omega arith, refl)

    own_fresh : (x : ℕ) → has_moves s.moves x ≡ true → IsInSpan r x → worth_at v.weights (place_of s.moves x) ≡ pos 0
    own_fresh x h i = (b.blank_in r (zero, omega arith, refl) (place_of s.moves x) (place_up s.moves r.first x i.from) (place_above s.moves x r.end h i.below)).1

    pub is_function : IsFunction s ls q v r
    is_function = let f = fits_function s ls ps whole q v.worths r is_one in record {
      system = record { shapes = whole.fits.shapes; loops = whole.fits.loops };
      long_worths = b.long_worths;
      long_weights = b.long_weights;
      steps = f.0;
      loops = f.1;
      none = none_yet s ls ps whole q v r (function_steps s ls q.of v.worths r) own_fresh s.claims.loops ls;
      small = b.small.0;
    }

    held : Held q.low (function_steps s ls q.of v.worths r) (ground q.low (function_steps s ls q.of v.worths r) v (function_loops s ls q v.worths r)) (function_level s ls q v r) (function_loops s ls q v.worths r) (function_pairs s ls q v r)
    held = let e = b.long_worths in let f = b.long_weights in function_holds s ls ps whole q v r is_one (omega (arith, e)) (omega (arith, f)) own_fresh

    level_worths-long : length (function_level s ls q v r).worths ≡ suc (length s.moves)
    level_worths-long = held.long_worths ∙ (relaxed-long (ground q.low (function_steps s ls q.of v.worths r) v (function_loops s ls q v.worths r)).weights v.worths (function_steps s ls q.of v.worths r) ∙ b.long_worths)

    level_weights-long : length (function_level s ls q v r).weights ≡ suc (length s.moves)
    level_weights-long = held.long_weights ∙ (weighed-long q.low (function_steps s ls q.of v.worths r) v.weights (function_loops s ls q v.worths r) ∙ b.long_weights)

    -- spans without an address in common have no place in common
    other_places : (p : Span) → Contains rs p → (a : ℕ) → start_of p ≤ a → a < end_of p → IsOut r a
    other_places p ip a ge lt = decide (nat_le r.first p.first) refl
      where
        apart : AreApart r p
        apart = All-contains (AreApart r) rs p b.apart.0 ip

        filled_r : r.first < r.end
        filled_r = All-contains (λ (k : Span). k.first < k.end) ps r whole.filled is_one

        filled_p : p.first < p.end
        filled_p = All-contains (λ (k : Span). k.first < k.end) ps p whole.filled (b.within p (suc ip.0, (let i1 = ip.1 in omega (arith, i1)), ip.2))

        is_le : (x y : ℕ) → nat_le x y ≡ true → x ≤ y
        is_le x y e = grind (arith, nat_tests)

        not_le : (x y : ℕ) → nat_le x y ≡ false → y < x
        not_le x y e = grind (arith, nat_tests)

        behind : (t : Bool) → nat_le r.end p.first ≡ t → r.first ≤ p.first → r.end ≤ p.first
        behind true e le = is_le r.end p.first e
        behind false e le = absurd (apart p.first (record { from = le; below = not_le r.end p.first e }) (record { from = omega arith; below = filled_p }))

        ahead : (t : Bool) → nat_le p.end r.first ≡ t → p.first < r.first → p.end ≤ r.first
        ahead true e le = is_le p.end r.first e
        ahead false e le = absurd (apart r.first (record { from = omega arith; below = filled_r }) (record { from = omega (arith, le); below = not_le p.end r.first e }))

        decide : (t : Bool) → nat_le r.first p.first ≡ t → IsOut r a
        decide true e = inr (let u = place_up s.moves r.end p.first (behind (nat_le r.end p.first) refl (is_le r.first p.first e)) in omega (arith, u, ge))
        decide false e = inl (let u = place_up s.moves p.end r.first (ahead (nat_le p.end r.first) refl (not_le r.first p.first e)) in omega (arith, u, lt))

    pub before_next : Before (function_level s ls q v r) rs
    before_next = record {
      within = λ p h. b.within p (suc h.0, (let h1 = h.1 in omega (arith, h1)), h.2);
      apart = b.apart.1;
      small = b.small.1;
      long_worths = level_worths-long;
      long_weights = level_weights-long;
      blank_in = λ p ip a ge lt.
          let stays = leaves_others v r a is_one (other_places p ip a ge lt) in
          let was = b.blank_in p (suc ip.0, (let i1 = ip.1 in omega (arith, i1)), ip.2) a ge lt in
          (stays.0 ∙ was.0, stays.1 ∙ was.1);
    }

    -- the level comes back from the one behind the function
    pub level_back : (now : Level) (worths weights : List ℤ) → now ≡ function_level s ls q v r → length worths ≡ length now.worths → length weights ≡ length now.weights → IsPut (place_of s.moves r.first) (place_of s.moves r.end) q.low now.worths worths → IsPut (place_of s.moves r.first) (place_of s.moves r.end) (pos 0) now.weights weights →
        level_of worths weights ≡ v
    level_back now worths weights e long_worths long_weights f g =
        let own = b.blank_in r (zero, omega arith, refl) in
        let x : worths ≡ v.worths = put_back (start_of r) (end_of r) q.low v.worths now.worths worths (long_worths ∙ (ap (λ k. length k.worths) e ∙ (level_worths-long ∙ sym b.long_worths))) (λ a ge lt. (own a ge lt).0) (λ a out. ap (λ k. worth_at k.worths a) e ∙ (leaves_others v r a is_one out).0) f in
        let y : weights ≡ v.weights = put_back (start_of r) (end_of r) (pos 0) v.weights now.weights weights (long_weights ∙ (ap (λ k. length k.weights) e ∙ (level_weights-long ∙ sym b.long_weights))) (λ a ge lt. (own a ge lt).1) (λ a out. ap (λ k. worth_at k.weights a) e ∙ (leaves_others v r a is_one out).1) g in
        ap (λ ws. level_of ws weights) x ∙ ap (λ ws. level_of v.worths ws) y

    -- and from its walk to the ends
    pub walk_back : (worths' weights' worths weights : List ℤ) → worths' ≡ (function_ground s ls q v r).worths → weights' ≡ v.weights → length worths ≡ length worths' → length weights ≡ length weights' → IsPut (place_of s.moves r.first) (place_of s.moves r.end) q.low worths' worths → IsPut (place_of s.moves r.first) (place_of s.moves r.end) (pos 0) weights' weights →
        level_of worths weights ≡ v
    walk_back worths' weights' worths weights e e' long_worths long_weights f g =
        let own = b.blank_in r (zero, omega arith, refl) in
        let long = relaxed-long (function_ground s ls q v r).weights v.worths (function_steps s ls q.of v.worths r) in
        let x : worths ≡ v.worths = put_back (start_of r) (end_of r) q.low v.worths worths' worths (long_worths ∙ (ap length e ∙ long)) (λ a ge lt. (own a ge lt).0) (λ a out. ap (λ ws. worth_at ws a) e ∙ walk_leaves_others v r a out) f in
        let y : weights ≡ v.weights = put_back (start_of r) (end_of r) (pos 0) v.weights weights' weights (long_weights ∙ ap length e') (λ a ge lt. (own a ge lt).1) (λ a out. ap (λ ws. worth_at ws a) e') g in
        ap (λ ws. level_of ws weights) x ∙ ap (λ ws. level_of v.worths ws) y

  -- the level before each of the functions
  pub before_at : (v : Level) (rs : List Span) (i : ℕ) → Before v rs → Before (level_at s ls q v rs i) (drop i rs)
  before_at v [] zero b = b
  before_at v [] (suc i) b = b
  before_at v (r ∷ rs) zero b = b
  before_at v (r ∷ rs) (suc i) b = before_at (function_level s ls q v r) rs i (before_next v r rs b)
