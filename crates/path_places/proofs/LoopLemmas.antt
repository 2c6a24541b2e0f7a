-- The steps of a function are steps over places, and its loops are loops over them.
use Rattle.std.proofs.Common.{◌≡◌, ◌≢◌, ℕ, zero, suc, ◌+◌, ◌-◌, ◌≤◌, ◌<◌, ℤ, arith, refl, sym, ap, subst, List, [], ◌∷◌, ◌++◌, length, take, drop, Contains, All, inl, inr, ◌⊎◌, Bool, true, false, cond, Option, Some, None}
use Rattle.std.specs.Prelude.{nat_lt, nat_le, ◌==◌}
use Rattle.std.specs.Option.{option_to_list}
use Rattle.std.proofs.lemmas.Bool.Decides.{nat_tests, eqb_tells}
use Rattle.std.proofs.lemmas.List.Elements.{All-contains, Contains-append_right}
use Rattle.code_flow_system.specs.declared.claims.LoopClaim.{LoopClaim}
use Rattle.code_flow_system.specs.declared.moves.Move.{Move}
use Rattle.code_flow_system.specs.declared.shapes.LoopShape.{LoopShape}
use Rattle.code_flow_system.specs.declared.shapes.Span.{Span}
use Rattle.code_flow_system.specs.Moves.{destinations}
use Rattle.code_flow_system.specs.Systems.{System, ComesBefore, AreAscending, has_moves}
use Rattle.code_flow_system.specs.Shapes.{IsInLoop, EntersAtHeader, IsLoop, onward_by, onward, is_back, GoesUp, IsInSpan}
use Rattle.loop_walks.specs.declared.step.Step.{Step}
use Rattle.loop_walks.specs.Walks.{between}
use Rattle.loop_walks.specs.Rows.{IsStep, NotBefore, AreSteps, Each, KeepsOut, IsBack, IsLoopOf}
use Rattle.loop_walks.proofs.EachLemmas.{each_map, each_both, each_take, each_drop}
use Rattle.path_places.specs.Places.{place_of, on_place, step_of, steps_of, before, back_place, end_place, loop_of}
use Rattle.path_places.proofs.PlaceLemmas.{place_up, place_above, place_within, place_below}
use Rattle.path_places.proofs.BeforeLemmas.{before_up, before_length, taken_before, dropped_before, between_taken}
use Rattle.path_places.proofs.HeaderLemmas.{decide_in}

pub has_of : (ms : List Move) (m : Move) → Contains ms m → has_moves ms m.at ≡ true
has_of [] m (k, lt, e) = absurd (omega (arith, lt))
has_of (x ∷ ms) m (zero, lt, e) = elim (eqb_tells x.at m.at) [ inl q ↦ rw q.0 refl | inr q ↦ absurd (q.1 (ap (λ (y : Move). y.at) e)) ]
has_of (x ∷ ms) m (suc k, lt, e) = by_test (x.at == m.at) (has_of ms m (k, omega (arith, lt), e))
  where
    by_test : (t : Bool) → has_moves ms m.at ≡ true → cond t true (has_moves ms m.at) ≡ true
    by_test true h = refl
    by_test false h = h

Contains-later : (x : Move) (xs : List Move) (m : Move) → Contains xs m → Contains (x ∷ xs) m
Contains-later x xs m (k, lt, e) = (suc k, omega (arith, lt), e)

-- what holds of each step
pub steps_each : (P : Step → Type 0) (price : Move → ℤ) (all : List Move) (ws : List ℤ) (walked : ℕ → Bool) (ms : List Move) → ((m : Move) → Contains ms m → walked m.at ≡ true → P (step_of price all ws m)) → Each P (steps_of price all ws walked ms)
steps_each P price all ws walked [] h = tt
steps_each P price all ws walked (m ∷ ms) h = by_test (walked m.at) refl (steps_each P price all ws walked ms (λ k i t. h k (Contains-later m ms k i) t))
  where
    by_test : (t : Bool) → walked m.at ≡ t → Each P (steps_of price all ws walked ms) → Each P (cond t (step_of price all ws m ∷ steps_of price all ws walked ms) (steps_of price all ws walked ms))
    by_test true t r = (h m (zero, omega arith, refl) t, r)
    by_test false t r = r

each_not_before : (a : ℕ) (xs : List Step) → Each (λ m. a ≤ m.at) xs → NotBefore a xs
each_not_before a [] h = tt
each_not_before a (m ∷ ms) h = (h.0, each_not_before a ms h.1)

comes_at : (m k : Move) → ComesBefore m k → m.at ≤ k.at
comes_at m k h = elim h [ inl e ↦ omega (arith, e) | inr e ↦ let e0 = e.0 in omega (arith, e0) ]

pub onward_arrives : (to back : Option ℕ) (d : ℕ) → Contains (onward_by to back) d → Contains (option_to_list to ++ option_to_list back) d
onward_arrives None None d h = h
onward_arrives (Some t) None d h = h
onward_arrives None (Some b) d h = h
onward_arrives (Some t) (Some b) d h = Contains-append_right (t ∷ []) (b ∷ []) d h

-- a list is empty, or has a first element
pub first_or : (ds : List ℕ) → (ds ≡ []) ⊎ ((d : ℕ) × (es : List ℕ) × (ds ≡ d ∷ es))
first_or [] = inl refl
first_or (d ∷ es) = inr (d, es, refl)

module _ (s : System) (ls : List LoopShape) (price : Move → ℤ) (ws : List ℤ) (walked : ℕ → Bool) (up : All (GoesUp ls) s.moves) (ascending : AreAscending s.moves) (no_back : (a : ℕ) → walked a ≡ true → is_back ls a ≡ false) where
  is_step : (m : Move) → Contains s.moves m → walked m.at ≡ true → IsStep (length s.moves) (step_of price s.moves ws m)
  is_step m im w = elim (first_or (onward m)) [
    | inl e ↦ let on : on_place s.moves (onward m) ≡ length s.moves = ap (on_place s.moves) e in let b = place_below s.moves m.at (has_of s.moves m im) in (omega (arith, on, b), omega (arith, on))
    | inr h ↦
        let on : on_place s.moves (onward m) ≡ place_of s.moves h.0 = ap (on_place s.moves) h.2 in
        let lt = All-contains (λ a. m.at < a) (onward m) h.0 (All-contains (GoesUp ls) s.moves m up im (no_back m.at w)) (subst (λ ds. Contains ds h.0) (sym h.2) (zero, omega arith, refl)) in
        let a = place_above s.moves m.at h.0 (has_of s.moves m im) lt in
        let b = place_within s.moves h.0 in (omega (arith, on, a), omega (arith, on, b))
  ]

  some_steps : (ms : List Move) → AreAscending ms → ((m : Move) → Contains ms m → Contains s.moves m) → AreSteps (length s.moves) (steps_of price s.moves ws walked ms)
  some_steps [] o i = tt
  some_steps (m ∷ ms) o i = by_test (walked m.at) refl (some_steps ms o.1 (λ k h. i k (Contains-later m ms k h)))
    where
      by_test : (t : Bool) → walked m.at ≡ t → AreSteps (length s.moves) (steps_of price s.moves ws walked ms) → AreSteps (length s.moves) (cond t (step_of price s.moves ws m ∷ steps_of price s.moves ws walked ms) (steps_of price s.moves ws walked ms))
      by_test true t r = (
        is_step m (i m (zero, omega arith, refl)) t,
        each_not_before (place_of s.moves m.at) (steps_of price s.moves ws walked ms)
            (steps_each (λ k. place_of s.moves m.at ≤ k.at) price s.moves ws walked ms (λ k h w. place_up s.moves m.at k.at (comes_at m k (All-contains (ComesBefore m) ms k o.0 h)))),
        r,
      )
      by_test false t r = r

  -- steps ascend, and go on to later places
  pub steps_ascend : AreSteps (length s.moves) (steps_of price s.moves ws walked s.moves)
  steps_ascend = some_steps s.moves ascending (λ m h. h)

-- one loop of a function
module _ (s : System) (ls : List LoopShape) (price : Move → ℤ) (low : ℤ) (ws : List ℤ) (p : Span) (ms : List Step) (claim : LoopClaim) (l : LoopShape) (loop : IsLoop s l) (steps : AreSteps (length s.moves) ms) (inside : IsInSpan p l.header) (there : has_moves s.moves l.header ≡ true)
    (behind : (a : ℕ) → has_moves s.moves a ≡ true → IsInSpan p a → IsInLoop l a → l.header ≤ a) where
  header_above : (a : ℕ) → l.header < a → place_of s.moves l.header < place_of s.moves a
  header_above a h = place_above s.moves l.header a there h

  pub header_before_end : place_of s.moves l.header < end_place s.moves l p
  header_before_end =
      let a = header_above (l.last + 1) (let t = loop.header.to in omega (arith, t)) in
      let b = header_above p.end inside.below in omega (arith, a, b)

  -- a move outside the range goes on to the header alone, or stays out
  pub goes_out : (m : Move) → Contains s.moves m → IsInSpan p m.at → (place_of s.moves m.at < place_of s.moves l.header) ⊎ (end_place s.moves l p ≤ place_of s.moves m.at) →
      (on_place s.moves (onward m) ≤ place_of s.moves l.header) ⊎ (end_place s.moves l p ≤ on_place s.moves (onward m))
  goes_out m im in_p out = elim (first_or (onward m)) [
    | inl e ↦ let on : on_place s.moves (onward m) ≡ length s.moves = ap (on_place s.moves) e in let w = place_within s.moves p.end in inr (omega (arith, on, w))
    | inr h ↦ subst (λ n. (n ≤ place_of s.moves l.header) ⊎ (end_place s.moves l p ≤ n)) (sym (ap (on_place s.moves) h.2))
        (goes h.0 (onward_arrives m.to m.behind h.0 (subst (λ ds. Contains ds h.0) (sym h.2) (zero, omega arith, refl))))
  ]
    where
      not_in : IsInLoop l m.at → ⊥
      not_in i = elim out [
        | inl o ↦
            let h = behind m.at (has_of s.moves m im) in_p i in
            let u = place_up s.moves l.header m.at h in omega (arith, o, u)
        | inr o ↦
            let a = place_above s.moves m.at p.end (has_of s.moves m im) in_p.below in
            let b = place_above s.moves m.at (l.last + 1) (has_of s.moves m im) (let t = i.to in omega (arith, t)) in omega (arith, o, a, b)
      ]

      goes : (d : ℕ) → Contains (destinations m) d → (place_of s.moves d ≤ place_of s.moves l.header) ⊎ (end_place s.moves l p ≤ place_of s.moves d)
      goes d id = elim (decide_in l d) [
        | inl i ↦
            let e : d ≡ l.header = All-contains (λ a. IsInLoop l a → a ≡ l.header) (destinations m) d (All-contains (EntersAtHeader l) s.moves m loop.entered im not_in) id i in
            inl (let q : place_of s.moves d ≡ place_of s.moves l.header = ap (place_of s.moves) e in omega (arith, q))
        | inr n ↦ by_side (nat_lt d l.first) refl n
      ]
        where
          by_side : (t : Bool) → nat_lt d l.first ≡ t → (IsInLoop l d → ⊥) → (place_of s.moves d ≤ place_of s.moves l.header) ⊎ (end_place s.moves l p ≤ place_of s.moves d)
          by_side true t n = let lt : d < l.first = grind (arith, nat_tests) in let f = loop.header.from in inl (place_up s.moves d l.header (omega (arith, lt, f)))
          by_side false t n =
              let ge : l.first ≤ d = grind (arith, nat_tests) in
              let gt : l.last < d = by_last (nat_le d l.last) refl ge n in
              let u = place_up s.moves (l.last + 1) d (omega (arith, gt)) in inr (omega (arith, u))
            where
              by_last : (u : Bool) → nat_le d l.last ≡ u → l.first ≤ d → (IsInLoop l d → ⊥) → l.last < d
              by_last true u ge n = absurd (n (record { from = ge; to = grind (arith, nat_tests) }))
              by_last false u ge n = grind (arith, nat_tests)

  -- the loop over places, where each step outside keeps out and none begins at the jump back
  pub loop_is : Each (λ k. (k.at < place_of s.moves l.header) ⊎ (end_place s.moves l p ≤ k.at) → (k.on ≤ place_of s.moves l.header) ⊎ (end_place s.moves l p ≤ k.on)) ms →
      IsBack (loop_of price low s.moves s.claims p ms claim l) ms (back_place s.moves s.claims l.back) → IsLoopOf (length s.moves) ms (loop_of price low s.moves s.claims p ms claim l)
  loop_is out back = record {
    range = (header_before_end, let w = place_within s.moves p.end in omega (arith, w));
    order = (before_up (place_of s.moves l.header) (place_of s.moves l.header + 1) ms (omega arith), before_up (place_of s.moves l.header + 1) (end_place s.moves l p) ms (let h = header_before_end in omega (arith, h)), before_length (end_place s.moves l p) ms);
    before = each_both (λ k. k.at < place_of s.moves l.header) (λ k. (k.at < place_of s.moves l.header) ⊎ (end_place s.moves l p ≤ k.at) → (k.on ≤ place_of s.moves l.header) ⊎ (end_place s.moves l p ≤ k.on)) (KeepsOut (loop_of price low s.moves s.claims p ms claim l)) (take (before (place_of s.moves l.header) ms) ms) (λ k a o. o (inl a)) (taken_before (place_of s.moves l.header) ms) (each_take (λ k. (k.at < place_of s.moves l.header) ⊎ (end_place s.moves l p ≤ k.at) → (k.on ≤ place_of s.moves l.header) ⊎ (end_place s.moves l p ≤ k.on)) (before (place_of s.moves l.header) ms) ms out);
    heads = each_both (λ k. k.at < place_of s.moves l.header + 1) (λ k. place_of s.moves l.header ≤ k.at) (λ k. k.at ≡ place_of s.moves l.header) (between (before (place_of s.moves l.header) ms) (before (place_of s.moves l.header + 1) ms) ms) (λ k a b. omega (arith, a, b))
        (between_taken (λ k. k.at < place_of s.moves l.header + 1) (before (place_of s.moves l.header) ms) (before (place_of s.moves l.header + 1) ms) ms (taken_before (place_of s.moves l.header + 1) ms))
        (each_take (λ k. place_of s.moves l.header ≤ k.at) (before (place_of s.moves l.header + 1) ms - before (place_of s.moves l.header) ms) (drop (before (place_of s.moves l.header) ms) ms) (dropped_before (place_of s.moves l.header) (length s.moves) ms steps));
    body = each_both (λ k. k.at < end_place s.moves l p) (λ k. place_of s.moves l.header + 1 ≤ k.at) (λ k. (place_of s.moves l.header < k.at) × (k.at < end_place s.moves l p)) (between (before (place_of s.moves l.header + 1) ms) (before (end_place s.moves l p) ms) ms) (λ k a b. (omega (arith, b), a))
        (between_taken (λ k. k.at < end_place s.moves l p) (before (place_of s.moves l.header + 1) ms) (before (end_place s.moves l p) ms) ms (taken_before (end_place s.moves l p) ms))
        (each_take (λ k. place_of s.moves l.header + 1 ≤ k.at) (before (end_place s.moves l p) ms - before (place_of s.moves l.header + 1) ms) (drop (before (place_of s.moves l.header + 1) ms) ms) (dropped_before (place_of s.moves l.header + 1) (length s.moves) ms steps));
    behind = each_both (λ k. end_place s.moves l p ≤ k.at) (λ k. (k.at < place_of s.moves l.header) ⊎ (end_place s.moves l p ≤ k.at) → (k.on ≤ place_of s.moves l.header) ⊎ (end_place s.moves l p ≤ k.on)) (KeepsOut (loop_of price low s.moves s.claims p ms claim l)) (drop (before (end_place s.moves l p) ms) ms) (λ k a o. o (inr a)) (dropped_before (end_place s.moves l p) (length s.moves) ms steps) (each_drop (λ k. (k.at < place_of s.moves l.header) ⊎ (end_place s.moves l p ≤ k.at) → (k.on ≤ place_of s.moves l.header) ⊎ (end_place s.moves l p ≤ k.on)) (before (end_place s.moves l p) ms) ms out);
    others = (
      each_map (λ k. k.at < place_of s.moves l.header) (λ k. k.at ≢ place_of s.moves l.header) (take (before (place_of s.moves l.header) ms) ms) (λ k a e. absurd (omega (arith, a, e))) (taken_before (place_of s.moves l.header) ms),
      each_map (λ k. end_place s.moves l p ≤ k.at) (λ k. k.at ≢ place_of s.moves l.header) (drop (before (end_place s.moves l p) ms) ms) (λ k a e. let h = header_before_end in absurd (omega (arith, a, e, h))) (dropped_before (end_place s.moves l p) (length s.moves) ms steps),
    );
    back = back;
  }
