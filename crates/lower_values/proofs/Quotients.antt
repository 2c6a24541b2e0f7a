-- Quotients with a sign by powers of two: bits moved down, behind a bias for what is negative.
use Rattle.std.proofs.Common.{◌≡◌, ℕ, zero, suc, ◌+◌, ◌-◌, ◌*◌, ◌/◌, ◌%◌, ◌^◌, ◌<◌, ◌≤◌, true, false, nat_lt, pos, negsuc, refl, sym, ap, ◌∙◌, ⊎_elim, arith}
use Rattle.std.specs.Prelude.{if◌then◌else◌, neg_ℤ, int_div}
use Rattle.std.proofs.lemmas.Nat.{pow_pos, pow-add, pow_below, div-add-mod', div-mul-add, le-div, mod_below}
use Rattle.std.proofs.lemmas.Bool.{cases_lt}
use Rattle.std.proofs.lemmas.Bool.Decides.{nat_tests}
use Rattle.wcc_base.specs.Words.{signed_word, wrapped, sum_word, signed_quotient_word, right_shift_word, floor_shift, signed_right_shift_word}

-- words without a sign, and with one
signed_low : (a : ℕ) → a < 2 ^ 31 → signed_word a ≡ pos a
signed_low a h =
    let low : nat_lt a (2 ^ 31) ≡ true = grind (arith, nat_tests, h) in
    ap (λ b. if b then pos a else negsuc (2 ^ 32 - 1 - a)) low

signed_high : (a : ℕ) → 2 ^ 31 ≤ a → signed_word a ≡ negsuc (2 ^ 32 - 1 - a)
signed_high a h =
    let low : nat_lt a (2 ^ 31) ≡ false = grind (arith, nat_tests, h) in
    ap (λ b. if b then pos a else negsuc (2 ^ 32 - 1 - a)) low

-- what the bits of the sign are
sign_low : (a : ℕ) → a < 2 ^ 31 → signed_right_shift_word a 31 ≡ 0
sign_low a h =
    let none : a / 2 ^ 31 ≡ 0 = omega (arith, h) in
    ap (λ z. wrapped (floor_shift z 31)) (signed_low a h) ∙ ap (λ n. wrapped (pos n)) none

sign_high : (a : ℕ) → 2 ^ 31 ≤ a → signed_right_shift_word a 31 ≡ 2 ^ 32 - 1
sign_high a h =
    let none : (2 ^ 32 - 1 - a) / 2 ^ 31 ≡ 0 = omega (arith, h) in
    ap (λ z. wrapped (floor_shift z 31)) (signed_high a h) ∙ ap (λ n. wrapped (negsuc n)) none

-- a quotient, from its remainder
divides : (n q r w : ℕ) → r < w → q * w + r ≡ n → n / w ≡ q
divides n q r w h e = ap (λ m. m / w) (sym e) ∙ div-mul-add q w r h

divides_none : (n w : ℕ) → n < w → n / w ≡ 0
divides_none n w h = let whole : 0 * w + n ≡ n = omega arith in divides n 0 n w h whole

ones_by : (w v : ℕ) → 0 < w → 0 < v → w * v ≡ 2 ^ 32 → (2 ^ 32 - 1) / v ≡ w - 1
ones_by zero v hw hv e = absurd (omega (arith, hw))
ones_by (suc w) zero hw hv e = absurd (omega (arith, hv))
ones_by (suc w) (suc v) hw hv e =
    let whole : w * suc v + v ≡ 2 ^ 32 - 1 = omega (arith, e) in
    let less : suc w - 1 ≡ w = omega arith in
    divides (2 ^ 32 - 1) w v (suc v) (omega arith) whole ∙ sym less

one_less : (n w : ℕ) → 0 < w → w ≤ n → (n - w) / w ≡ n / w - 1
one_less n w h le = by_quotient (n / w) refl
  where
    by_quotient : (q : ℕ) → n / w ≡ q → (n - w) / w ≡ q - 1
    by_quotient zero e = let some = le-div 1 n w h (omega (arith, le)) in absurd (omega (arith, some, e))
    by_quotient (suc q) e =
        let whole : suc q * w + n % w ≡ n = ap (λ m. m * w + n % w) (sym e) ∙ div-add-mod' n w in
        let rest : q * w + n % w ≡ n - w = omega (arith, whole) in
        let less : suc q - 1 ≡ q = omega arith in
        divides (n - w) q (n % w) w (mod_below n w h) rest ∙ sym less

-- an exponent, and what is left of a word above it
halves : (k : ℕ) → k < 32 → 2 ^ k * 2 ^ (32 - k) ≡ 2 ^ 32
halves k h = let whole : k + (32 - k) ≡ 32 = omega (arith, h) in sym (pow-add 2 k (32 - k)) ∙ ap (λ n. 2 ^ n) whole

record IsExponent (k : ℕ) : Type 0 where
  some : 0 < k
  few : k < 31

bias_low : (a k : ℕ) → a < 2 ^ 31 → right_shift_word (signed_right_shift_word a 31) (32 - k) ≡ 0
bias_low a k h = ap (λ n. right_shift_word n (32 - k)) (sign_low a h) ∙ divides_none 0 (2 ^ ((32 - k) % 32)) (pow_pos ((32 - k) % 32))

bias_high : (a k : ℕ) → 2 ^ 31 ≤ a → IsExponent k → right_shift_word (signed_right_shift_word a 31) (32 - k) ≡ 2 ^ k - 1
bias_high a k h is =
    let some = is.some in
    let few = is.few in
    let same : (32 - k) % 32 ≡ 32 - k = omega (arith, some, few) in
    ap (λ n. right_shift_word n (32 - k)) (sign_high a h) ∙ ap (λ n. (2 ^ 32 - 1) / 2 ^ n) same
    ∙ ones_by (2 ^ k) (2 ^ (32 - k)) (pow_pos k) (pow_pos (32 - k)) (halves k (omega (arith, few)))

-- the word of a number below zero
wrapped_below : (q : ℕ) → q ≤ 2 ^ 31 → wrapped (neg_ℤ (pos q)) ≡ (2 ^ 32 - q) % 2 ^ 32
wrapped_below zero h = refl
wrapped_below (suc q) h = omega (arith, h)

wrapped_negsuc : (q : ℕ) → 0 < q → q ≤ 2 ^ 31 → wrapped (negsuc (q - 1)) ≡ (2 ^ 32 - q) % 2 ^ 32
wrapped_negsuc q some h = omega (arith, some, h)

divided_by : (a w : ℕ) → 0 < w → w < 2 ^ 31 → signed_quotient_word a w ≡ wrapped (int_div (signed_word a) (pos w))
divided_by a zero h small = absurd (omega (arith, h))
divided_by a (suc w) h small = ap (λ z. wrapped (int_div (signed_word a) z)) (signed_low (suc w) small)

down_low : (a w : ℕ) → a < 2 ^ 31 → 0 < w → w < 2 ^ 31 → wrapped (pos (a / w)) ≡ signed_quotient_word a w
down_low a w h some small = sym (divided_by a w some small ∙ ap (λ z. wrapped (int_div z (pos w))) (signed_low a h))

shifted_down : (a k : ℕ) → k < 31 → signed_right_shift_word a k ≡ wrapped (floor_shift (signed_word a) k)
shifted_down a k few = let same : k % 32 ≡ k = omega (arith, few) in ap (λ n. wrapped (floor_shift (signed_word a) n)) same

quotient_most : (n w : ℕ) → 0 < w → n ≤ 2 ^ 31 → n / w ≤ 2 ^ 31
quotient_most n zero h le = absurd (omega (arith, h))
quotient_most n (suc w) h le = let whole = div-add-mod' n (suc w) in omega (arith, whole, le)

-- of a word that stands for -n
below_quotient : (a n w : ℕ) → n + a ≡ 2 ^ 32 → 2 ^ 31 ≤ a → 0 < n → 0 < w → w < 2 ^ 31 → signed_quotient_word a w ≡ (2 ^ 32 - n / w) % 2 ^ 32
below_quotient a n w e h positive some small =
    let before : suc (2 ^ 32 - 1 - a) ≡ n = omega (arith, e, positive) in
    divided_by a w some small ∙ ap (λ z. wrapped (int_div z (pos w))) (signed_high a h)
    ∙ ap (λ m. wrapped (neg_ℤ (pos (m / w)))) before ∙ wrapped_below (n / w) (quotient_most n w some (omega (arith, e, h)))

module _ (a n k : ℕ) (e : n + a ≡ 2 ^ 32) (h : 2 ^ 31 ≤ a) (positive : 0 < n) (is : IsExponent k) (small : 2 ^ k < 2 ^ 31) where
  -- far enough below zero, the sum stays below zero
  far_below : 2 ^ k ≤ n → signed_right_shift_word (sum_word a (2 ^ k - 1)) k ≡ (2 ^ 32 - n / 2 ^ k) % 2 ^ 32
  far_below le =
      let few = is.few in
      let some = pow_pos k in
      let s = a + (2 ^ k - 1) in
      let within : sum_word a (2 ^ k - 1) ≡ s = omega (arith, e, le, some) in
      let under : 2 ^ 32 - 1 - s ≡ n - 2 ^ k = omega (arith, e, le, some) in
      let one = le-div 1 n (2 ^ k) some (omega (arith, le)) in
      ap (λ m. signed_right_shift_word m k) within ∙ shifted_down s k few ∙ ap (λ z. wrapped (floor_shift z k)) (signed_high s (omega (arith, h)))
      ∙ ap (λ m. wrapped (negsuc (m / 2 ^ k))) under ∙ ap (λ m. wrapped (negsuc m)) (one_less n (2 ^ k) some le)
      ∙ wrapped_negsuc (n / 2 ^ k) (omega (arith, one)) (quotient_most n (2 ^ k) some (omega (arith, e, h)))

  -- else it is a number below 2^k
  near_below : n < 2 ^ k → signed_right_shift_word (sum_word a (2 ^ k - 1)) k ≡ (2 ^ 32 - n / 2 ^ k) % 2 ^ 32
  near_below less =
      let few = is.few in
      let s = 2 ^ k - 1 - n in
      let within : sum_word a (2 ^ k - 1) ≡ s = omega (arith, e, less, small) in
      let none = divides_none n (2 ^ k) less in
      ap (λ m. signed_right_shift_word m k) within ∙ shifted_down s k few ∙ ap (λ z. wrapped (floor_shift z k)) (signed_low s (omega (arith, small, less)))
      ∙ ap (λ m. wrapped (pos m)) (divides_none s (2 ^ k) (omega (arith, less))) ∙ sym (ap (λ m. (2 ^ 32 - m) % 2 ^ 32) none)

  moved_below : signed_right_shift_word (sum_word a (2 ^ k - 1)) k ≡ (2 ^ 32 - n / 2 ^ k) % 2 ^ 32
  moved_below = ⊎_elim near_below far_below (cases_lt n (2 ^ k))

pub quotient-bias : (a k : ℕ) → a < 2 ^ 32 → 0 < k → k < 31 → signed_right_shift_word (sum_word a (right_shift_word (signed_right_shift_word a 31) (32 - k))) k ≡ signed_quotient_word a (2 ^ k)
quotient-bias a k h positive few =
    let is : IsExponent k = record { some = positive; few = few } in
    let some = pow_pos k in
    let small = pow_below k 31 few in
    ⊎_elim
    (λ (low : a < 2 ^ 31).
    let within : sum_word a 0 ≡ a = omega (arith, h) in
    ap (λ n. signed_right_shift_word (sum_word a n) k) (bias_low a k low) ∙ ap (λ n. signed_right_shift_word n k) within ∙ shifted_down a k few
    ∙ ap (λ z. wrapped (floor_shift z k)) (signed_low a low) ∙ down_low a (2 ^ k) low some small)
    (λ (high : 2 ^ 31 ≤ a).
    let whole : 2 ^ 32 - a + a ≡ 2 ^ 32 = omega (arith, h) in
    ap (λ n. signed_right_shift_word (sum_word a n) k) (bias_high a k high is)
    ∙ moved_below a (2 ^ 32 - a) k whole high (omega (arith, h)) is small ∙ sym (below_quotient a (2 ^ 32 - a) (2 ^ k) whole high (omega (arith, h)) some small))
    (cases_lt a (2 ^ 31))
