-- Products, and what a loop by a factor comes to.
use Rattle.std.proofs.Common.{◌≡◌, ℕ, ◌+◌, ◌*◌, ◌%◌, ◌^◌, ◌<◌, ◌≤◌, nat_lt, sym, ap, ◌∙◌, subst, arith}
use Rattle.std.specs.Prelude.{if◌then◌else◌}
use Rattle.std.proofs.Math.Nat.{mul-le-mul_left}
use Rattle.std.proofs.lemmas.Bool.{cond-false, cond-true, le-ltb, lt-ltb}

product_below : (a b : ℕ) → a < 2 ^ 32 → b < 2 ^ 26 → a * b < 2 ^ 58
product_below a b lt few =
    let le : b ≤ 67108863 = omega (arith, few) in
    let h : a * b ≤ a * 67108863 = mul-le-mul_left a le in
    omega (arith, h, lt)

-- as the code multiplies, in more bits
pub wide_product : (a b count operations : ℕ) → a ≡ count → b ≡ operations → count < 2 ^ 32 → operations < 2 ^ 26 → a * b < 2 ^ 58
wide_product a b count operations same also lt few = product_below a b (subst (λ n. n < 2 ^ 32) (sym same) lt) (subst (λ n. n < 2 ^ 26) (sym also) few)

module _ (k most o : ℕ) where
  abbrev by_factor : ℕ
  by_factor = if nat_lt most k then 2 + most * o else 3 + (most % k + k) * o

  pub short_sum : (a : ℕ) → most < k → a ≡ most * o → 2 + a ≡ by_factor
  short_sum a lt is = ap (λ n. 2 + n) is ∙ sym (cond-true (nat_lt most k) (2 + most * o) (3 + (most % k + k) * o) (lt-ltb most k lt))

  pub long_sum : (a b : ℕ) → k ≤ most → a ≡ most % k * o → b ≡ k * o → 3 + a + b ≡ by_factor
  long_sum a b le first others =
      let e : (most % k + k) * o ≡ most % k * o + k * o = omega arith in
      let s : 3 + a + b ≡ 3 + (most % k + k) * o = omega (arith, first, others, e) in
      s ∙ sym (cond-false (nat_lt most k) (2 + most * o) (3 + (most % k + k) * o) (le-ltb most k le))
