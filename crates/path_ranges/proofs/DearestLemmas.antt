-- The greatest price of the moves of an address.
use Rattle.std.proofs.Common.{◌≡◌, ℕ, zero, suc, ℤ, pos, ◌≤ℤ◌, arith, refl, List, [], ◌∷◌, Contains, All, inl, inr, ◌⊎◌, Bool, true, false, cond}
use Rattle.std.specs.Prelude.{◌==◌}
use Rattle.std.specs.Int.RustNames.{int_le}
use Rattle.std.proofs.lemmas.Int.{ints}
use Rattle.std.proofs.lemmas.Bool.Decides.{eqb_tells}
use Rattle.std.proofs.lemmas.List.Elements.{All-head, All-tail}
use Rattle.code_flow_system.specs.declared.moves.Move.{Move}
use Rattle.code_flow_system.specs.Systems.{has_moves}
use Rattle.loop_walks.specs.Walks.{larger}
use Rattle.loop_walks.proofs.LargerLemmas.{larger_right}
use Rattle.path_places.specs.Places.{dearest_from}

module _ (price : Move → ℤ) where
  pub dearest_none : (ms : List Move) (a : ℕ) (z : ℤ) → has_moves ms a ≡ false → dearest_from price ms a z ≡ z
  dearest_none [] a z h = refl
  dearest_none (m ∷ ms) a z h = by_test (m.at == a) h (dearest_none ms a z)
    where
      by_test : (t : Bool) → cond t true (has_moves ms a) ≡ false → (has_moves ms a ≡ false → dearest_from price ms a z ≡ z) → cond t (larger (price m) (dearest_from price ms a z)) (dearest_from price ms a z) ≡ z
      by_test true h r = cc
      by_test false h r = r h

  pub dearest_least : (ms : List Move) (a : ℕ) (z : ℤ) → z ≤ℤ dearest_from price ms a z
  dearest_least [] a z = omega (arith, ints)
  dearest_least (m ∷ ms) a z = by_test (m.at == a) (dearest_least ms a z)
    where
      by_test : (t : Bool) → z ≤ℤ dearest_from price ms a z → z ≤ℤ cond t (larger (price m) (dearest_from price ms a z)) (dearest_from price ms a z)
      by_test true r = let l = larger_right (price m) (dearest_from price ms a z) in omega (arith, ints)
      by_test false r = r

  -- a move that costs no less
  pub record Dearest (ms : List Move) (a : ℕ) : Type 0 where
    pub move : Move
    pub among : Contains ms move
    pub at : move.at ≡ a
    pub most : dearest_from price ms a (pos 0) ≤ℤ price move

  pub dearest_is : (ms : List Move) (a : ℕ) → All (λ m. pos 0 ≤ℤ price m) ms → has_moves ms a ≡ true → Dearest ms a
  dearest_is [] a p h = cc
  dearest_is (m ∷ ms) a p h = elim (eqb_tells m.at a) [
    | inl k ↦ let q = k.0 in here k.0 k.1 (has_moves ms a) refl (λ r. dearest_is ms a (All-tail (λ m. pos 0 ≤ℤ price m) m ms p) r)
    | inr k ↦ there k.0 (dearest_is ms a (All-tail (λ m. pos 0 ≤ℤ price m) m ms p) (rest (m.at == a) k.0 h))
  ]
    where
      rest : (t : Bool) → t ≡ false → cond t true (has_moves ms a) ≡ true → has_moves ms a ≡ true
      rest true e h = cc
      rest false e h = h

      later : (k : Dearest ms a) → dearest_from price (m ∷ ms) a (pos 0) ≤ℤ price k.move → Dearest (m ∷ ms) a
      later k le = record { move = k.move; among = (suc k.among.0, (let i = k.among.1 in omega (arith, i)), k.among.2); at = k.at; most = le }

      there : (m.at == a) ≡ false → Dearest ms a → Dearest (m ∷ ms) a
      there e k = later k (let q = k.most in rw e q)

      own : m.at ≡ a → dearest_from price (m ∷ ms) a (pos 0) ≤ℤ price m → Dearest (m ∷ ms) a
      own e le = record { move = m; among = (zero, omega arith, refl); at = e; most = le }

      larger_is : (x y : ℤ) → (larger x y ≡ y) ⊎ (larger x y ≡ x)
      larger_is x y = by_test (int_le x y)
        where
          by_test : (t : Bool) → (cond t y x ≡ y) ⊎ (cond t y x ≡ x)
          by_test true = inl refl
          by_test false = inr refl

      here : (m.at == a) ≡ true → m.at ≡ a → (t : Bool) → has_moves ms a ≡ t → (has_moves ms a ≡ true → Dearest ms a) → Dearest (m ∷ ms) a
      here e at true is r =
          let k = r is in
          elim (larger_is (price m) (dearest_from price ms a (pos 0))) [
            | inl q ↦ later k (let q1 = k.most in rw (e, q) q1)
            | inr q ↦ own at (rw (e, q) (omega (arith, ints)))
          ]
      here e at false is r =
          let z = dearest_none ms a (pos 0) is in
          let p0 = All-head (λ m. pos 0 ≤ℤ price m) m ms p in
          elim (larger_is (price m) (dearest_from price ms a (pos 0))) [
            | inl q ↦ own at (rw (e, q, z) p0)
            | inr q ↦ own at (rw (e, q) (omega (arith, ints)))
          ]
