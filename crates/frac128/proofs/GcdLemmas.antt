-- Greatest common divisors of multiples, and that lowest terms are unique.
use Rattle.std.proofs.Common.{◌≡◌, ℕ, zero, suc, ◌+◌, ◌-◌, ◌*◌, ◌<◌, ◌≤◌, ℤ, pos, ◌*ℤ◌, ◌<ℤ◌, arith, refl, sym, ap, ◌∙◌, subst, unsigned_abs, inl, inr}
use Rattle.std.specs.Int.{IsGcd, ◌∣◌}
use Rattle.std.proofs.lemmas.Bool.{cases_lt}
use Rattle.std.proofs.lemmas.Int.{ints, unsigned_abs-mul}
use Rattle.std.proofs.lemmas.Nat.Gcd.{IsGcd-from_zero, IsGcd-from_sub, IsGcd-swap, dvd_antisymm}
use Rattle.std.proofs.Math.Nat.{mul-sub, mul-le-mul_left, dvd-mul_left}
use Rattle.frac128.specs.Frac.{IsLowest, IsSameRatio}
use Rattle.frac128.proofs.SignedLemmas.{le_of_mul-le}

-- the greatest common divisor of two numbers, and n times it for n times the numbers
abbrev CommonDivisor : ℕ → ℕ → ℕ → Type 0
CommonDivisor n a b = (g : ℕ) × IsGcd a b g × IsGcd (n * a) (n * b) (n * g)

divisor-zero : (n a : ℕ) → CommonDivisor n a 0
divisor-zero n a = (a, IsGcd-from_zero a 0 refl, IsGcd-from_zero (n * a) (n * 0) (omega arith))

divisor-swap : (n a b : ℕ) → CommonDivisor n a b → CommonDivisor n b a
divisor-swap n a b c = (c.0, IsGcd-swap a b c.0 c.1, IsGcd-swap (n * a) (n * b) (n * c.0) c.2)

divisor-sub : (n a b : ℕ) → b ≤ a → CommonDivisor n (a - b) b → CommonDivisor n a b
divisor-sub n a b le c = (
  c.0,
  IsGcd-from_sub a b c.0 le c.1,
  IsGcd-from_sub (n * a) (n * b) (n * c.0) (mul-le-mul_left n le) (
      let P : ℕ → Type 0 = λ m. IsGcd m (n * b) (n * c.0) in subst P (mul-sub n a b) c.2),
)

-- by differences, of which there are fewer than the bound
divisor_of : (bound n a b : ℕ) → a + b < bound → CommonDivisor n a b
divisor_of zero n a b lt = absurd (omega arith)
divisor_of (suc bound) n a zero lt = divisor-zero n a
divisor_of (suc bound) n zero (suc b) lt = divisor-swap n (suc b) 0 (divisor-zero n (suc b))
divisor_of (suc bound) n (suc a) (suc b) lt = elim (cases_lt (suc a) (suc b)) [
  | inl h ↦ divisor-swap n (suc b) (suc a) (divisor-sub n (suc b) (suc a) (omega arith) (divisor_of bound n (suc b - suc a) (suc a) (omega arith)))
  | inr h ↦ divisor-sub n (suc a) (suc b) h (divisor_of bound n (suc a - suc b) (suc b) (omega arith))
]

-- what divides a product and has no divisor in common with one factor divides the other
dvd_of_dvd-mul : (k m n : ℕ) → ((d : ℕ) → d ∣ k → d ∣ m → d ≡ 1) → k ∣ (n * m) → k ∣ n
dvd_of_dvd-mul k m n lowest divides =
    let c = divisor_of (suc (k + m)) n k m (omega arith) in
    let one : c.0 ≡ 1 = lowest c.0 c.1.0 c.1.1 in
    let whole : n * c.0 ≡ n = rw one (omega arith) in
    let P : ℕ → Type 0 = λ m. k ∣ m in
    subst P whole (c.2.2 k (dvd-mul_left k n) divides)

-- a divisor of one denominator divides the other
den_divides : (a b c d : ℕ) → ((k : ℕ) → k ∣ a → k ∣ b → k ≡ 1) → a * d ≡ c * b → b ∣ d
den_divides a b c d lowest same = dvd_of_dvd-mul b a d (λ k e f. lowest k f e) (
    let product : c * b ≡ d * a = omega (arith, same) in
    let P : ℕ → Type 0 = λ m. b ∣ m in subst P product (dvd-mul_left b c))

pub IsLowest-unique : (a b c d : ℤ) → pos 0 <ℤ b → pos 0 <ℤ d → IsLowest a b → IsLowest c d → IsSameRatio a b c d → (a ≡ c) × (b ≡ d)
IsLowest-unique a b c d b_positive d_positive ab cd same =
    let products : unsigned_abs a * unsigned_abs d ≡ unsigned_abs c * unsigned_abs b = sym (unsigned_abs-mul a d) ∙ (ap unsigned_abs same ∙ unsigned_abs-mul c b) in
    let sizes = dvd_antisymm (den_divides _ _ _ _ ab products) (den_divides _ _ _ _ cd (sym products)) in
    let dens : b ≡ d = omega (arith, ints) in
    let nums : a *ℤ b ≡ c *ℤ b = ap (λ z. a *ℤ z) dens ∙ same in
    let at_most = le_of_mul-le a c b b_positive (omega (arith, ints)) in
    let at_least = le_of_mul-le c a b b_positive (omega (arith, ints)) in
    (omega (arith, ints), dens)
