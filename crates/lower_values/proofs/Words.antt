-- What operators compute of words, in the high form and on the machine.
use Rattle.std.proofs.Common.{◌≡◌, ◌≢◌, ℕ, zero, suc, ◌-◌, ◌*◌, ◌/◌, ◌%◌, ◌^◌, ◌<◌, ◌≤◌, Bool, true, false, nat_lt, Option, Some, None, refl, sym, ap, ◌∙◌, subst, ⊎_elim, arith}
use Rattle.std.specs.Prelude.{◌==◌, if◌then◌else◌, bit_and, bit_xor}
use Rattle.std.specs.Int.Bits.{xor_self, xor_add_and}
use Rattle.std.proofs.lemmas.Nat.{and_le_l, and_le_r, and_mask, pow_below}
use Rattle.std.proofs.lemmas.Bool.{cases_eq}
use Rattle.std.proofs.lemmas.Bool.Decides.{nat_tests}
use Rattle.std.proofs.lemmas.Option.{same_Some}
use Rattle.wcc_base.specs.Words.{truth_word, sum_word, difference_word, product_word, quotient_word, remainder_word, and_word, xor_word, left_shift_word, right_shift_word, equal_word, less_word}
use Rattle.high_ir.specs.Words.{untrue_word}
use Rattle.lower_definition.specs.Operators.{negated, above_one, divisor_exponent, exponent_below, exponent_of}

-- a sum with the complement is a difference
pub sum-negated : (a w : ℕ) → w < 2 ^ 32 → sum_word a (negated w) ≡ difference_word a w
sum-negated a w h = omega (arith, h)

pub negated_below : (w : ℕ) → negated w < 2 ^ 32
negated_below w = omega arith

pub sum_sides : (a b : ℕ) → sum_word a b ≡ sum_word b a
sum_sides a b = omega arith

pub product_sides : (a b : ℕ) → product_word a b ≡ product_word b a
product_sides a b = let e : a * b ≡ b * a = omega arith in ap (λ n. n % 2 ^ 32) e

-- a power of two
pub record IsPower (w k : ℕ) : Type 0 where
  pub power : 2 ^ k ≡ w
  pub below : k < 32

found : (n w k : ℕ) → exponent_below n w ≡ Some k → (2 ^ k ≡ w) × (k < n)
found zero w k e = cc
found (suc n) w k e = at (2 ^ n == w) refl e (found n w k)
  where
    at : (b : Bool) → (2 ^ n == w) ≡ b → (if b then Some n else exponent_below n w) ≡ Some k → (exponent_below n w ≡ Some k → (2 ^ k ≡ w) × (k < n)) → (2 ^ k ≡ w) × (k < suc n)
    at true t e more =
        let same : n ≡ k = same_Some n k e in
        let is : 2 ^ n ≡ w = grind (arith, nat_tests, t) in
        (subst (λ m. 2 ^ m ≡ w) same is, omega (arith, same))
    at false t e more = let h = more e in let less = h.1 in (h.0, omega (arith, less))

pub exponent_found : (w k : ℕ) → exponent_of w ≡ Some k → IsPower w k
unfolding exponent_of
exponent_found w k e = let h = found 32 w k e in record { power = h.0; below = h.1 }

-- a power of two that a quotient with a sign is taken by
pub record IsDivisor (w k : ℕ) : Type 0 where
  pub power : 2 ^ k ≡ w
  pub some : 0 < k
  pub few : k < 31

above_found : (n w k : ℕ) → n ≤ 31 → above_one (exponent_below n w) ≡ Some k → IsDivisor w k
above_found n w k le e = at (exponent_below n w) refl e
  where
    at : (o : Option ℕ) → exponent_below n w ≡ o → above_one o ≡ Some k → IsDivisor w k
    at None q e = cc
    at (Some zero) q e = cc
    at (Some (suc j)) q e =
        let h = found n w (suc j) q in
        let less = h.1 in
        subst (IsDivisor w) (same_Some (suc j) k e) (record { power = h.0; some = omega arith; few = omega (arith, less, le) })

pub divisor_found : (w k : ℕ) → divisor_exponent w ≡ Some k → IsDivisor w k
unfolding divisor_exponent
divisor_found w k e = above_found 31 w k (omega arith) e

small_shift : (k : ℕ) → k < 32 → k % 32 ≡ k
small_shift k h = omega (arith, h)

pub product-shift : (a w k : ℕ) → IsPower w k → left_shift_word a k ≡ product_word a w
product-shift a w k p = ap (λ n. a * 2 ^ n % 2 ^ 32) (small_shift k p.below) ∙ ap (λ m. a * m % 2 ^ 32) p.power

positive : (k : ℕ) → 0 < 2 ^ k
positive k = at (2 ^ k) refl
  where
    at : (n : ℕ) → 2 ^ k ≡ n → 0 < n
    at zero e = absurd (omega (arith, e, pow_below 0 (suc k) (omega arith)))
    at (suc n) e = omega arith

quotient_by : (a w : ℕ) → 0 < w → quotient_word a w ≡ a / w
quotient_by a zero h = absurd (omega (arith, h))
quotient_by a (suc w) h = refl

remainder_by : (a w : ℕ) → 0 < w → remainder_word a w ≡ a % w
remainder_by a zero h = absurd (omega (arith, h))
remainder_by a (suc w) h = refl

pub quotient-shift : (a w k : ℕ) → IsPower w k → right_shift_word a k ≡ quotient_word a w
quotient-shift a w k p =
    ap (λ n. a / 2 ^ n) (small_shift k p.below) ∙ ap (λ m. a / m) p.power ∙ sym (quotient_by a w (subst (λ m. 0 < m) p.power (positive k)))

pub remainder-mask : (a w k : ℕ) → IsPower w k → and_word a (w - 1) ≡ remainder_word a w
remainder-mask a w k p =
    ap (λ m. bit_and a (m - 1)) (sym p.power) ∙ and_mask a k ∙ ap (λ m. a % m) p.power ∙ sym (remainder_by a w (subst (λ m. 0 < m) p.power (positive k)))

-- words are equal where they differ in no bit
no_bits : (a b : ℕ) → bit_xor a b ≡ 0 → a ≡ b
no_bits a b e =
    let sums = xor_add_and a b in
    let l = and_le_l a b in
    let r = and_le_r a b in
    omega (arith, sums, l, r, e)

pub equal-xor : (a b : ℕ) → less_word (xor_word a b) 1 ≡ equal_word a b
equal-xor a b = ⊎_elim
    (λ (same : a ≡ b).
    let none : bit_xor a b ≡ 0 = ap (bit_xor a) (sym same) ∙ xor_self a in
    let small : nat_lt (bit_xor a b) 1 ≡ true = grind (arith, nat_tests, none) in
    let is : (a == b) ≡ true = grind (arith, nat_tests, same) in
    ap truth_word small ∙ sym (ap truth_word is))
    (λ (other : a ≢ b).
    let some : bit_xor a b ≢ 0 = λ e. other (no_bits a b e) in
    let big : nat_lt (bit_xor a b) 1 ≡ false = grind (arith, nat_tests, some) in
    let isnt : (a == b) ≡ false = grind (arith, nat_tests, other) in
    ap truth_word big ∙ sym (ap truth_word isnt))
    (cases_eq a b)

-- whether a word is 0, and whether it isn't
pub zero-less : (a : ℕ) → less_word a 1 ≡ equal_word a 0
zero-less zero = refl
zero-less (suc a) =
    let big : nat_lt (suc a) 1 ≡ false = grind (arith, nat_tests) in
    let isnt : (suc a == 0) ≡ false = grind (arith, nat_tests) in
    ap truth_word big ∙ sym (ap truth_word isnt)

nonzero-less : (a : ℕ) → less_word 0 a ≡ untrue_word (less_word a 1)
nonzero-less zero = refl
nonzero-less (suc a) =
    let big : nat_lt (suc a) 1 ≡ false = grind (arith, nat_tests) in
    let some : nat_lt 0 (suc a) ≡ true = grind (arith, nat_tests) in
    ap truth_word some ∙ sym (ap (λ b. untrue_word (truth_word b)) big)

pub not_equal-xor : (a b : ℕ) → less_word 0 (xor_word a b) ≡ untrue_word (equal_word a b)
not_equal-xor a b = nonzero-less (xor_word a b) ∙ ap untrue_word (equal-xor a b)

pub untrue-xor : (b : Bool) → xor_word (truth_word b) 1 ≡ untrue_word (truth_word b)
untrue-xor true = refl
untrue-xor false = refl
