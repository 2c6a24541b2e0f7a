-- Sums and products of numbers that are cut.
use Rattle.std.proofs.Common.{◌≡◌, refl, ℕ, zero, suc, ◌+◌, ◌*◌, ◌<◌, ◌≤◌, ◌⊎◌, inl, inr, arith}
use Rattle.std.proofs.Math.Nat.{le-mul_of_pos_right, mul_comm}
use Rattle.facts_definitions.specs.Most.{cut}

pub cut-add : (x y : ℕ) → cut (cut x + cut y) ≡ cut (x + y)
cut-add x y = omega arith

below_or_not : (i n : ℕ) → (i ≤ n) ⊎ (n < i)
below_or_not zero n = inl (omega arith)
below_or_not (suc i) zero = inr (omega arith)
below_or_not (suc i) (suc n) = up (below_or_not i n)
  where
    up : (i ≤ n) ⊎ (n < i) → (suc i ≤ suc n) ⊎ (suc n < suc i)
    up (inl a) = inl (omega (arith, a))
    up (inr a) = inr (omega (arith, a))

at_most : (p q : ℕ) → 18446744073709551615 ≤ p → 18446744073709551615 ≤ q → cut p ≡ cut q
at_most p q a b = omega (arith, a, b)

cases : (x y : ℕ) → (x ≤ 18446744073709551615) ⊎ (18446744073709551615 < x) → (y ≤ 18446744073709551615) ⊎ (18446744073709551615 < y) → cut (cut x * cut y) ≡ cut (x * y)
cases x y (inl a) (inl b) = let e : cut x ≡ x = omega (arith, a) in let f : cut y ≡ y = omega (arith, b) in rw (e, f) refl
cases x zero (inr a) h = omega arith
cases x (suc k) (inr a) h =
    let a0 : 0 < cut (suc k) = omega arith in
    let b0 : 0 < suc k = omega arith in
    let p = le-mul_of_pos_right (cut x) a0 in
    let q = le-mul_of_pos_right x b0 in
    at_most (cut x * cut (suc k)) (x * suc k) (omega (arith, a, p)) (omega (arith, a, q))
cases zero y (inl a) (inr b) = omega arith
cases (suc k) y (inl a) (inr b) =
    let a0 : 0 < cut (suc k) = omega arith in
    let b0 : 0 < suc k = omega arith in
    let p = le-mul_of_pos_right (cut y) a0 in
    let q = le-mul_of_pos_right y b0 in
    rw (mul_comm (cut (suc k)) (cut y), mul_comm (suc k) y) (at_most (cut y * cut (suc k)) (y * suc k) (omega (arith, b, p)) (omega (arith, b, q)))

pub cut-mul : (x y : ℕ) → cut (cut x * cut y) ≡ cut (x * y)
cut-mul x y = cases x y (below_or_not x 18446744073709551615) (below_or_not y 18446744073709551615)

pub cut-cut : (x : ℕ) → cut (cut x) ≡ cut x
cut-cut x = omega arith
