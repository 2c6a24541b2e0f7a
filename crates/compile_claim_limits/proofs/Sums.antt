-- Sums over the elements of a list by their numbers.
use Rattle.std.proofs.Common.{◌≡◌, ℕ, zero, suc, ◌+◌, ◌≤◌, List, [], ◌∷◌, length, refl, ap, arith}
use Rattle.std.specs.Prelude.{slice_index_or, sum_by}
use Rattle.std.proofs.lemmas.List.Sums.{sum_by-cons}
use Rattle.simulation_marks.proofs.Sums.{summed, summed-zero, upto}

shifted : (g : ℕ → ℕ) (a n : ℕ) → summed g (upto (suc a) n) ≡ summed (λ k. g (suc k)) (upto a n)
shifted g a zero = refl
shifted g a (suc n) = ap (λ m. g (suc a) + m) (shifted g (suc a) n)

pub summed_last : (g : ℕ → ℕ) (a n : ℕ) → summed g (upto a (suc n)) ≡ summed g (upto a n) + g (a + n)
summed_last g a zero = let here = ap g (same a) in omega (arith, here)
  where
    same : (a : ℕ) → a ≡ a + 0
    same a = omega arith
summed_last g a (suc n) =
    let rest = summed_last g (suc a) n in
    let here = ap g (same a n) in
    omega (arith, rest, here)
  where
    same : (a n : ℕ) → suc a + n ≡ a + suc n
    same a n = omega arith

module _ {X : Type 0} (h : X → ℕ) (d : X) where
  abbrev at : List X → ℕ → ℕ
  at xs k = h (slice_index_or xs k d)

  pub by_numbers : (xs : List X) → summed (at xs) (upto 0 (length xs)) ≡ sum_by h xs
  by_numbers [] = refl
  by_numbers (x ∷ xs) =
      let shift = shifted (at (x ∷ xs)) 0 (length xs) in
      let rest : summed (λ k. at (x ∷ xs) (suc k)) (upto 0 (length xs)) ≡ sum_by h xs = by_numbers xs in
      let all = sum_by-cons h x xs in
      omega (arith, shift, rest, all)

  nothing : h d ≡ 0 → (k : ℕ) → at [] k ≡ 0
  nothing e zero = e
  nothing e (suc k) = e

  -- so many of them, or all
  pub first_numbers : h d ≡ 0 → (n : ℕ) (xs : List X) → summed (at xs) (upto 0 n) ≤ sum_by h xs
  first_numbers e n [] = let none = summed-zero (at []) (upto 0 n) (nothing e) in omega (arith, none)
  first_numbers e zero (x ∷ xs) = omega arith
  first_numbers e (suc n) (x ∷ xs) =
      let shift = shifted (at (x ∷ xs)) 0 n in
      let rest : summed (λ k. at (x ∷ xs) (suc k)) (upto 0 n) ≤ sum_by h xs = first_numbers e n xs in
      let all = sum_by-cons h x xs in
      omega (arith, shift, rest, all)
