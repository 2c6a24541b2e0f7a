-- The first move of an address stands at its place.
use Rattle.std.proofs.Common.{◌≡◌, ℕ, zero, suc, ◌+◌, ◌<◌, ◌≤◌, ℤ, arith, refl, sym, ap, ◌∙◌, List, [], ◌∷◌, ◌++◌, length, drop, get_or, inl, inr, Bool, true, false, append_assoc, append-nil}
use Rattle.std.specs.Prelude.{◌==◌, nat_lt, if◌then◌else◌}
use Rattle.std.proofs.Math.Seq.{drop-cons}
use Rattle.std.proofs.lemmas.Bool.Decides.{nat_tests}
use Rattle.std.proofs.lemmas.List.{get_or_default}
use Rattle.code_flow_system.specs.declared.moves.Move.{Move}
use Rattle.code_flow_system.specs.Systems.{ComesBefore, AreAscending}
use Rattle.frac128.specs.Terms.{Terms}
use Rattle.loop_walks.specs.Walks.{worth_at}
use Rattle.path_places.specs.Places.{place_of}
use Rattle.path_places.specs.Duals.{potentials_of}
use Rattle.path_walks.proofs.PointLemmas.{place_is}

comes : (ms : List Move) (k i : ℕ) (d e : Move) → AreAscending ms → k < i → i < length ms → ComesBefore (get_or ms k d) (get_or ms i e)
comes [] k i d e up lt lt' = absurd (omega arith)
comes (m ∷ ms) k zero d e up lt lt' = absurd (omega arith)
comes (m ∷ ms) zero (suc i) d e up lt lt' = up.0 i e (omega arith)
comes (m ∷ ms) (suc k) (suc i) d e up lt lt' = comes ms k i d e up.1 (omega arith) (omega arith)

is_less : (b a : ℕ) → b < a → nat_lt b a ≡ true
is_less b a h = grind (arith, nat_tests)

not_less : (b a : ℕ) → a ≤ b → nat_lt b a ≡ false
not_less b a h = grind (arith, nat_tests)

first_place : (ms : List Move) (i : ℕ) (m : Move) → AreAscending ms → i < length ms → m ≡ get_or ms i m → m.number ≡ 0 → place_of ms m.at ≡ i
first_place ms i m up lt is first = sym (place_is ms i m.at (omega (arith, lt)) (
  λ k d le less. is_less (get_or ms k d).at m.at (before k d (comes ms k i d m up less lt)),
  λ k d le less. not_less (get_or ms k d).at m.at (from k d le less),
))
  where
    at_is : m.at ≡ (get_or ms i m).at
    at_is = ap (λ (x : Move). x.at) is

    number_is : m.number ≡ (get_or ms i m).number
    number_is = ap (λ (x : Move). x.number) is

    before : (k : ℕ) (d : Move) → ComesBefore (get_or ms k d) (get_or ms i m) → (get_or ms k d).at < m.at
    before k d c = elim c [ inl a ↦ omega (arith, a, at_is) | inr b ↦ let n = b.1 in absurd (omega (arith, n, number_is, first)) ]

    behind : (k : ℕ) (d : Move) → ComesBefore (get_or ms i m) (get_or ms k d) → m.at ≤ (get_or ms k d).at
    behind k d c = elim c [ inl a ↦ omega (arith, a, at_is) | inr b ↦ let n = b.0 in omega (arith, n, at_is) ]

    from : (k : ℕ) (d : Move) → i ≤ k → k < length ms → m.at ≤ (get_or ms k d).at
    from k d le less = by_test (nat_lt i k) refl
      where
        by_test : (t : Bool) → nat_lt i k ≡ t → m.at ≤ (get_or ms k d).at
        by_test true e = behind k d (comes ms i k m d up (later e) less)
          where
            later : nat_lt i k ≡ true → i < k
            later e = grind (arith, nat_tests)
        by_test false e = let f : k ≡ i = here e in let g = ap (λ j. (get_or ms j d).at) f in let h = ap (λ (x : Move). x.at) (get_or_default ms i d m lt) in omega (arith, g, h, at_is)
          where
            here : nat_lt i k ≡ false → k ≡ i
            here e = let a : k ≤ i = grind (arith, nat_tests) in omega (arith, a, le)

next : (i : ℕ) → suc i ≡ i + 1
next i = omega arith

pub potential_added : (ms : List Move) (ws : List ℤ) (i : ℕ) (m : Move) (z : ℤ) (out out' whole : Terms) → AreAscending ms → i < length ms → m ≡ get_or ms i m → z ≡ worth_at ws i → out ++ potentials_of ms ws (drop i ms) ≡ whole →
    out' ≡ out ++ (if m.number == 0 then (m.at, z) ∷ [] else []) → out' ++ potentials_of ms ws (drop (i + 1) ms) ≡ whole
potential_added ms ws i m z out out' whole up lt is worth a e = by_test (m.number == 0) refl (sym cut) e
  where
    rest : Terms
    rest = potentials_of ms ws (drop (i + 1) ms)

    cut : potentials_of ms ws (drop i ms) ≡ (if m.number == 0 then (m.at, worth_at ws (place_of ms m.at)) ∷ potentials_of ms ws (drop (i + 1) ms) else potentials_of ms ws (drop (i + 1) ms))
    cut = ap (potentials_of ms ws) (drop-cons ms i m lt ∙ ap (λ j. get_or ms i m ∷ drop j ms) (next i)) ∙ ap (λ (x : Move). potentials_of ms ws (x ∷ drop (i + 1) ms)) (sym is)

    by_test : (t : Bool) → (m.number == 0) ≡ t → (if t then (m.at, worth_at ws (place_of ms m.at)) ∷ potentials_of ms ws (drop (i + 1) ms) else potentials_of ms ws (drop (i + 1) ms)) ≡ potentials_of ms ws (drop i ms) → out' ≡ out ++ (if t then (m.at, z) ∷ [] else []) → out' ++ potentials_of ms ws (drop (i + 1) ms) ≡ whole
    by_test true t c f =
        let p = first_place ms i m up lt is (zero_is t) in
        ap (λ (xs : Terms). xs ++ potentials_of ms ws (drop (i + 1) ms)) f
        ∙ (append_assoc out ((m.at, z) ∷ []) (potentials_of ms ws (drop (i + 1) ms))
        ∙ (ap (λ (y : ℤ). out ++ (m.at, y) ∷ potentials_of ms ws (drop (i + 1) ms)) (worth ∙ sym (ap (worth_at ws) p))
        ∙ (ap (λ (xs : Terms). out ++ xs) c ∙ a)))
      where
        zero_is : (m.number == 0) ≡ true → m.number ≡ 0
        zero_is t = grind (arith, nat_tests)
    by_test false t c f =
        ap (λ (xs : Terms). xs ++ potentials_of ms ws (drop (i + 1) ms)) (f ∙ append-nil out) ∙ (ap (λ (xs : Terms). out ++ xs) c ∙ a)
