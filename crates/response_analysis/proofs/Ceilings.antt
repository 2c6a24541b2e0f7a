-- The quotient rounded up is the least number of periods that cover so many cycles.
use Rattle.std.proofs.Common.{◌≡◌, ℕ, zero, suc, ◌+◌, ◌*◌, ◌/◌, ◌%◌, ◌^◌, ◌<◌, ◌≤◌, min, arith, refl, sym, ap, ◌∙◌, subst, inl, inr, mul-le-mul_right, mul-le-mul_left, le_of_mul-le-mul_right, div-add-mod'}
use Rattle.std.specs.Int.{div_ceil}
use Rattle.std.proofs.lemmas.Nat.{mod_below}
use Rattle.std.proofs.lemmas.Bool.{cases_lt}

covers_by : (q m c p r : ℕ) → q * p + m ≡ r → m < p → c ≡ min 1 m → r ≤ (q + c) * p
covers_by q m zero p r e h is = let none : m ≡ 0 = omega (arith, is) in omega (arith, e, none)
covers_by q m (suc zero) p r e h is = omega (arith, e, h)
covers_by q m (suc (suc c)) p r e h is = absurd (omega (arith, is))

least_by : (q m c p r k : ℕ) → q * p + m ≡ r → m < p → c ≡ min 1 m → r ≤ k * p → q + c ≤ k
least_by q m c p r k e h is le = elim (cases_lt q k) [
  | inl lt ↦ omega (arith, is, lt)
  | inr ge ↦
      let more : k * p ≤ q * p = mul-le-mul_right p ge in
      let none : m ≡ 0 = omega (arith, e, le, more) in
      let same : q * p ≤ k * p = omega (arith, e, le) in
      let positive : 0 < p = omega (arith, h) in
      let few = le_of_mul-le-mul_right {m = q} {n = k} {k = p} same positive in
      omega (arith, is, none, few)
]

-- so many periods cover the cycles
pub ceil_covers : (r p : ℕ) → 0 < p → r ≤ div_ceil r p * p
ceil_covers r p h = covers_by (r / p) (r % p) (min 1 (r % p)) p r (div-add-mod' r p) (mod_below r p h) refl

-- and fewer don't
pub ceil_least : (r p k : ℕ) → 0 < p → r ≤ k * p → div_ceil r p ≤ k
ceil_least r p k h le = least_by (r / p) (r % p) (min 1 (r % p)) p r k (div-add-mod' r p) (mod_below r p h) refl le

pub ceil_rises : (r s p : ℕ) → 0 < p → r ≤ s → div_ceil r p ≤ div_ceil s p
ceil_rises r s p h le = let c = ceil_covers s p h in ceil_least r p (div_ceil s p) h (through (div_ceil s p * p) le c)
  where
    through : (t : ℕ) → r ≤ s → s ≤ t → r ≤ t
    through t a b = omega (arith, a, b)

pub ceil_few : (r p : ℕ) → 0 < p → div_ceil r p ≤ r
ceil_few r p h = let one : 1 ≤ p = omega (arith, h) in let m : r * 1 ≤ r * p = mul-le-mul_left r one in ceil_least r p r h (omega (arith, m))

-- a period that has begun before the last of the cycles
pub ceil_begun : (k r p : ℕ) → 0 < p → k < div_ceil r p → k * p < r
ceil_begun k r p h lt = elim (cases_lt (k * p) r) [
  | inl begun ↦ begun
  | inr le ↦ let few = ceil_least r p k h le in absurd (never (div_ceil r p) lt few)
]
  where
    never : (n : ℕ) → k < n → n ≤ k → ⊥
    never n a b = omega (arith, a, b)

-- a horizon and one period more
pub ceil_within : (f h p : ℕ) → 0 < p → f ≤ h → div_ceil f p ≤ suc (h / p)
ceil_within f h p positive le = ceil_least f p (suc (h / p)) positive (reaches (h / p) (h % p) (div-add-mod' h p) (mod_below h p positive))
  where
    reaches : (q m : ℕ) → q * p + m ≡ h → m < p → f ≤ suc q * p
    reaches q m e lt = omega (arith, e, lt, le)

-- the cycles that one task asks for
pub ask_small : (r p c : ℕ) → 0 < p → r ≤ 10 ^ 12 → c < 2 ^ 63 → div_ceil r p * c < 2 ^ 103
ask_small r p c h short small =
    let few = ceil_few r p h in
    bounded (div_ceil r p) few
  where
    bounded : (n : ℕ) → n ≤ r → n * c < 2 ^ 103
    bounded n few =
        let a : n ≤ 10 ^ 12 = omega (arith, few, short) in
        let b : c ≤ 2 ^ 63 = omega (arith, small) in
        let x : n * c ≤ 10 ^ 12 * c = mul-le-mul_right c a in
        let y : 10 ^ 12 * c ≤ 10 ^ 12 * 2 ^ 63 = mul-le-mul_left (10 ^ 12) b in
        omega (arith, x, y)

pub ask_fits : (a b r p c : ℕ) → a ≡ div_ceil r p → b ≡ c → 0 < p → r ≤ 10 ^ 12 → c < 2 ^ 63 → a * b < 2 ^ 103
ask_fits a b r p c first second h short small =
    let same : a * b ≡ div_ceil r p * c = ap (λ x. x * b) first ∙ ap (λ y. div_ceil r p * y) second in
    subst (λ n. n < 2 ^ 103) (sym same) (ask_small r p c h short small)
