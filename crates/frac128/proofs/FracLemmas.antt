-- Lemmas on floors, and on fractions over the greatest common divisor of their parts.
use Rattle.std.proofs.Common.{◌≡◌, ℕ, ◌<◌, ◌≤◌, ◌*◌, ◌/◌, ◌^◌, pos, ℤ, ◌<ℤ◌, ◌≤ℤ◌, ◌+ℤ◌, ◌*ℤ◌, arith, refl, suc, zero, sym, ap, ◌∙◌, subst, unsigned_abs, FitsSigned}
use lib.IntN.{negsuc, *ℤ_comm}
use mir.Val.{to_z, of_z}
use Rattle.std.specs.Prelude.{int_div}
use Rattle.std.specs.Int.{w128, int_div_euclid, IsGcd, ◌∣◌}
use Rattle.std.proofs.lemmas.Int.{ints, by_lt_z, to_z-of_z, to_z_pos}
use Rattle.std.proofs.Math.Nat.{mul-div_cancel', dvd_of_mul-dvd-mul_left, eq-one_of_dvd-one, mul-dvd-mul_left, pos_of_dvd_of_pos, le_of_dvd, div-le_self}
use Rattle.frac128.specs.Frac.{IsSmall, IsLowest, IsSameRatio, IsFloor}
use Rattle.frac128.proofs.SignedLemmas.{add-mul, neg-mul, mul_assoc, mul-le-mul_right, le_of_mul-le, le_of_mul-lt, div_euclid-mul-le, lt-div_euclid-mul, div_euclid_of_bounds}

-- floors

pub IsFloor-div_euclid : (a b : ℤ) → pos 0 <ℤ b → IsFloor a b (int_div_euclid a b)
IsFloor-div_euclid a b h = record {
  not_greater = div_euclid-mul-le a b h;
  greatest = λ z at_most. le_of_mul-lt z (int_div_euclid a b) b h (let e = lt-div_euclid-mul a b h in omega (arith, ints));
}

-- the next whole number is greater
pub lt-floor-mul : (a b q : ℤ) → IsFloor a b q → a <ℤ ((q *ℤ b) +ℤ b)
lt-floor-mul a b q floor = by_lt_z a ((q *ℤ b) +ℤ b) (λ below. below) (λ at_most. absurd (
    let e = add-mul q (pos 1) b in
    let f = floor.greatest (q +ℤ pos 1) (omega (arith, ints)) in omega (arith, ints)))

pub IsFloor-unique : (a b q : ℤ) → pos 0 <ℤ b → IsFloor a b q → q ≡ int_div_euclid a b
IsFloor-unique a b q h floor = div_euclid_of_bounds a b q h floor.not_greater (lt-floor-mul a b q floor)

-- whole numbers that are not greater than one fraction are not greater than an equal one
le-same_ratio : (a b c d z : ℤ) → pos 0 <ℤ b → pos 0 <ℤ d → IsSameRatio a b c d → (z *ℤ b) ≤ℤ a → (z *ℤ d) ≤ℤ c
le-same_ratio a b c d z b_positive d_positive same at_most = le_of_mul-le (z *ℤ d) c b b_positive (
    let e = mul-le-mul_right (z *ℤ b) a d (omega (arith, ints)) at_most in
    let f = mul_assoc z b d in
    let g = mul_assoc z d b in
    let h = ap (λ y. z *ℤ y) (*ℤ_comm b d) in omega (arith, ints))

pub IsFloor-same_ratio : (a b c d q : ℤ) → pos 0 <ℤ b → pos 0 <ℤ d → IsSameRatio a b c d → IsFloor a b q → IsFloor c d q
IsFloor-same_ratio a b c d q b_positive d_positive same floor = record {
  not_greater = le-same_ratio a b c d q b_positive d_positive same floor.not_greater;
  greatest = λ z at_most. floor.greatest z (le-same_ratio c d a b z d_positive b_positive (sym same) at_most);
}

-- quotients by a divisor of both parts, in the natural numbers

same_parts : (g p q n d : ℕ) → g * p ≡ n → g * q ≡ d → p * d ≡ n * q
same_parts g p q n d e f = rw (← e, ← f) (omega arith)

divides_part : (g k p n : ℕ) → g * p ≡ n → k ∣ p → (g * k) ∣ n
divides_part g k p n e h = let P : ℕ → Type 0 = λ m. (g * k) ∣ m in subst P e (mul-dvd-mul_left k g h)

one_left : (g k : ℕ) → 0 < g → (g * k) ∣ g → k ≡ 1
one_left g k h e = eq-one_of_dvd-one (dvd_of_mul-dvd-mul_left k h (let P : ℕ → Type 0 = λ m. (g * k) ∣ m in let r : g ≡ g * 1 = omega arith in subst P r e))

positive_part : (g q d : ℕ) → 0 < d → g * q ≡ d → 0 < q
positive_part g zero d h e = omega arith
positive_part g (suc q) d h e = omega arith

-- quotients of whole numbers

unsigned_abs-int_div : (z : ℤ) (g : ℕ) → unsigned_abs (int_div z (pos g)) ≡ unsigned_abs z / g
unsigned_abs-int_div (pos a) g = omega (arith, ints)
unsigned_abs-int_div (negsuc a) g = omega (arith, ints)

int_div-mul : (n d : ℤ) (g : ℕ) → pos 0 <ℤ d → g ∣ unsigned_abs n → g ∣ unsigned_abs d → int_div n (pos g) *ℤ d ≡ n *ℤ int_div d (pos g)
int_div-mul (pos a) (pos b) g h e f = let r = same_parts g (a / g) (b / g) a b (mul-div_cancel' g e) (mul-div_cancel' g f) in omega (arith, ints)
int_div-mul (negsuc a) (pos b) g h e f =
    let r = same_parts g (suc a / g) (b / g) (suc a) b (mul-div_cancel' g e) (mul-div_cancel' g f) in
    let s = neg-mul (pos (suc a / g)) (pos b) in
    let t = neg-mul (pos (suc a)) (pos (b / g)) in omega (arith, ints)
int_div-mul n (negsuc b) g h e f = absurd (omega (arith, ints))

int_div_positive : (d : ℤ) (g : ℕ) → pos 0 <ℤ d → g ∣ unsigned_abs d → pos 0 <ℤ int_div d (pos g)
int_div_positive (pos b) g h e = let r = positive_part g (b / g) b (omega (arith, ints)) (mul-div_cancel' g e) in omega (arith, ints)
int_div_positive (negsuc b) g h e = absurd (omega (arith, ints))

-- n/d is num/den in lowest terms
pub record Reduces (num den n d : ℤ) : Type 0 where
  pub positive : pos 0 <ℤ d
  pub num_small : IsSmall n
  pub den_small : IsSmall d
  pub lowest : IsLowest n d
  pub same : IsSameRatio n d num den

-- the quotient as the program computes it, on i128s
abbrev pub computed_quotient : ℤ → ℕ → ℤ
computed_quotient z g = int_div (to_z w128 (of_z w128 z)) (to_z w128 g)

-- an i128 holds g and the quotients by it, and these are the parts in lowest terms
pub record Divides (num den : ℤ) (g : ℕ) : Type 0 where
  pub positive : 0 < g
  pub small : g ≤ 2 ^ 126
  pub num_fits : FitsSigned w128 (computed_quotient num g)
  pub den_fits : FitsSigned w128 (computed_quotient den g)
  pub reduces : Reduces num den (to_z w128 (of_z w128 (computed_quotient num g))) (to_z w128 (of_z w128 (computed_quotient den g)))

module _ (num den : ℤ) (parts : record { positive : pos 0 <ℤ den; num_small : IsSmall num; den_small : IsSmall den }) (g : ℕ) (gcd : IsGcd (unsigned_abs num) (unsigned_abs den) g) where
  den_positive : 0 < unsigned_abs den
  den_positive = omega (arith, ints, parts.positive)

  divisor_positive : 0 < g
  divisor_positive = pos_of_dvd_of_pos gcd.1 den_positive

  divisor_small : g ≤ 2 ^ 126
  divisor_small = let h = le_of_dvd den_positive gcd.1 in omega (arith, parts.den_small)

  quotient_small : (z : ℤ) → IsSmall z → IsSmall (int_div z (pos g))
  quotient_small z small = let e = unsigned_abs-int_div z g in let h = div-le_self (unsigned_abs z) g in omega (arith, small)

  computed_quotient_is : (z : ℤ) → IsSmall z → computed_quotient z g ≡ int_div z (pos g)
  computed_quotient_is z small = rw (to_z-of_z w128 z (omega (arith, ints)), to_z_pos w128 g (omega (arith, divisor_small))) refl

  quotient_fits : (z : ℤ) → IsSmall z → FitsSigned w128 (computed_quotient z g)
  quotient_fits z small = let h = quotient_small z small in rw (computed_quotient_is z small) (omega (arith, ints))

  held_quotient_is : (z : ℤ) → IsSmall z → to_z w128 (of_z w128 (computed_quotient z g)) ≡ int_div z (pos g)
  held_quotient_is z small = to_z-of_z w128 (computed_quotient z g) (quotient_fits z small) ∙ computed_quotient_is z small

  divides_quotient : (k : ℕ) (z : ℤ) → g ∣ unsigned_abs z → k ∣ unsigned_abs (int_div z (pos g)) → (g * k) ∣ unsigned_abs z
  divides_quotient k z h e =
      let P : ℕ → Type 0 = λ m. k ∣ m in
      divides_part g k (unsigned_abs z / g) (unsigned_abs z) (mul-div_cancel' g h) (subst P (unsigned_abs-int_div z g) e)

  reduces : Reduces num den (int_div num (pos g)) (int_div den (pos g))
  reduces = record {
    positive = int_div_positive den g parts.positive gcd.1;
    num_small = quotient_small num parts.num_small;
    den_small = quotient_small den parts.den_small;
    lowest = λ k a b. one_left g k divisor_positive (gcd.2 (g * k) (divides_quotient k num gcd.0 a) (divides_quotient k den gcd.1 b));
    same = int_div-mul num den g parts.positive gcd.0 gcd.1;
  }

  pub divides : Divides num den g
  divides = record {
    positive = divisor_positive;
    small = divisor_small;
    num_fits = quotient_fits num parts.num_small;
    den_fits = quotient_fits den parts.den_small;
    reduces = rw (held_quotient_is num parts.num_small, held_quotient_is den parts.den_small) reduces;
  }

-- products

-- a small product of i128s that hold small numbers is that of the numbers
pub held_product_is : (a b p : ℤ) → IsSmall a → IsSmall b → IsSmall (to_z w128 (of_z w128 a) *ℤ to_z w128 (of_z w128 b)) × (p ≡ to_z w128 (of_z w128 a) *ℤ to_z w128 (of_z w128 b)) → to_z w128 (of_z w128 p) ≡ a *ℤ b
held_product_is a b p a_small b_small product =
    let known : IsSmall (a *ℤ b) × (p ≡ a *ℤ b) = rw (to_z-of_z w128 a (omega (arith, ints)), to_z-of_z w128 b (omega (arith, ints))) at product in
    to_z-of_z w128 p (rw known.1 (omega (arith, ints, known.0))) ∙ known.1
