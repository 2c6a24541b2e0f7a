-- What a loop by a factor adds to a program, in numbers.
use Rattle.std.proofs.Common.{◌≡◌, ℕ, zero, suc, ◌+◌, ◌-◌, ◌*◌, ◌/◌, ◌%◌, ◌<◌, ◌≤◌, ◌==◌, Bool, true, false, not, ◌&&◌, nat_le, sym, ap, ◌∙◌, subst, arith, ⊎_elim}
use Rattle.std.proofs.Math.Nat.{mul-le-mul_left}
use Rattle.std.proofs.lemmas.Bool.{cases_lt, cond-false, cond-true, eqb-true, le-leb, lt-ltb}
use Rattle.wcc_base.specs.Budgets.{most_depth}
use Rattle.high_ir.specs.Size.{depth, operations}
use Rattle.high_ir.specs.Weight.{most_starts}
use Rattle.high_unrolled.specs.Factor.{Rolled, depth_by, first_starts, growth, has_loop, is_short, is_taken, operations_by}
use Rattle.high_unrolled.specs.Programs.{is_idle}
use Rattle.high_unrolled.proofs.Sizes.{some_work}
use Rattle.high_unrolled.proofs.Taking.{and_back, and_front}

-- c starts of a body of o operations, and e operations around them, in the place of the loop
pub work_grown : (e c o z : ℕ) → 1 ≤ c → 1 ≤ e → e + c * o - (o + 1) ≤ z → e + c * o + (z - (e + c * o - (o + 1))) ≡ o + 1 + z
work_grown e zero o z one some fit = absurd (omega (arith, one))
work_grown e (suc j) o z one some fit = let f : suc j * o ≡ o + j * o = omega arith in omega (arith, f, fit, some)

pub size_grown : (e c n o z : ℕ) → n ≤ 3 * o → 1 ≤ c → 1 ≤ e → e + c * o - (o + 1) ≤ z → e + c * n + 3 * (z - (e + c * o - (o + 1))) ≤ n + 1 + 3 * z
size_grown e zero n o z few one some fit = absurd (omega (arith, one))
size_grown e (suc j) n o z few one some fit =
    let f : suc j * o ≡ o + j * o = omega arith in
    let g : suc j * n ≡ n + j * n = omega arith in
    let h : j * n ≤ j * (3 * o) = mul-le-mul_left j few in
    let i : j * (3 * o) ≡ 3 * (j * o) = omega arith in
    omega (arith, f, g, h, i, fit, some)

-- a loop that makes no start
pub none_grown : (o : ℕ) → 1 ≤ o → 2 + 0 * o - (o + 1) ≡ 0
none_grown o one = let f : 0 * o ≡ 0 = omega arith in omega (arith, f, one)

module _ (k : ℕ) (x : Rolled) where
  pub short_work : is_short k x ≡ true → operations_by k x ≡ 2 + x.bounds.most * operations x.body
  short_work e = cond-true (is_short k x) (2 + x.bounds.most * operations x.body) (3 + (first_starts k x + k) * operations x.body) e

  pub long_work : is_short k x ≡ false → operations_by k x ≡ 3 + (first_starts k x + k) * operations x.body
  long_work e = cond-false (is_short k x) (2 + x.bounds.most * operations x.body) (3 + (first_starts k x + k) * operations x.body) e

  short_depth : is_short k x ≡ true → depth_by k x ≡ depth x.body + 1
  short_depth e = cond-true (is_short k x) (depth x.body + 1) (depth x.body + 3) e

  pub long_depth : is_short k x ≡ false → depth_by k x ≡ depth x.body + 3
  long_depth e = cond-false (is_short k x) (depth x.body + 1) (depth x.body + 3) e

  -- an idle loop is taken
  pub idle_taken : (room level : ℕ) → 2 ≤ k → level + (depth x.body + 1) ≤ most_depth → is_idle x.bounds.most x.body ≡ true → is_taken k room level x ≡ true
  idle_taken room level two shallow idle =
      let zero_most : x.bounds.most ≡ 0 = eqb-true x.bounds.most 0 (and_front (x.bounds.most == 0) (not (has_loop x.body)) idle) in
      let innermost : not (has_loop x.body) ≡ true = and_back (x.bounds.most == 0) (not (has_loop x.body)) idle in
      let short : is_short k x ≡ true = lt-ltb x.bounds.most k (omega (arith, zero_most, two)) in
      let no_growth : growth k x ≡ 0 = ap (λ n. n - (operations x.body + 1)) (short_work short ∙ ap (λ m. 2 + m * operations x.body) zero_most) ∙ none_grown (operations x.body) (some_work x.body) in
      let room_enough : growth k x ≤ room = omega (arith, no_growth) in
      let deep_enough : level + depth_by k x ≤ most_depth = omega (arith, short_depth short, shallow) in
      all_four (nat_le 2 k) (not (has_loop x.body)) (nat_le (growth k x) room) (nat_le (level + depth_by k x) most_depth) (le-leb 2 k two) innermost (le-leb (growth k x) room room_enough) (le-leb (level + depth_by k x) most_depth deep_enough)
    where
      all_four : (a b c d : Bool) → a ≡ true → b ≡ true → c ≡ true → d ≡ true → (a && (b && (c && d))) ≡ true
      all_four a b c d p q r t = ap (λ z. z && (b && (c && d))) p ∙ ap (λ z. z && (c && d)) q ∙ ap (λ z. z && d) r ∙ t

-- the starts of a loop are those before and those within the loop of k at a time
starts_divided : (most k : ℕ) → most ≡ most % k + k * (most / k)
starts_divided most k = omega arith

some_turns : (most k : ℕ) → 1 ≤ k → k ≤ most → 1 ≤ most / k
some_turns most k one le = ⊎_elim
    (λ (none : most / k < 1).
    let e : most / k ≡ 0 = omega (arith, none) in
    let f : k * (most / k) ≡ 0 = ap (λ q. k * q) e ∙ omega arith in
    let lt : most < k * (most / k) + k = omega (arith, one) in
    absurd (omega (arith, f, lt, le)))
    (λ (some : 1 ≤ most / k). some)
    (cases_lt (most / k) 1)

-- a loop of fewer starts than the factor weighs more than its starts
pub weight_short : (most w v : ℕ) → w ≤ v → 1 + (most * w + (1 + 0)) ≤ 4 + most_starts most * (3 + v)
weight_short zero w v le = let f : zero * w ≡ 0 = omega arith in omega (arith, f)
weight_short (suc j) w v le =
    let e : most_starts (suc j) ≡ suc j = omega arith in
    let f : suc j * w ≤ suc j * v = mul-le-mul_left (suc j) le in
    let g : suc j * (3 + v) ≡ 3 * suc j + suc j * v = omega arith in
    subst (λ m. 1 + (suc j * w + (1 + 0)) ≤ 4 + m * (3 + v)) (sym e) (omega (arith, f, g))

weight_turned : (p k q w v : ℕ) → 2 ≤ k → 1 ≤ q → w ≤ v → 1 + (p * w + (4 + q * (3 + (1 + (k * w + 0))) + 0)) ≤ 4 + (p + k * q) * (3 + v)
weight_turned p k q w v two one le =
    let a : p * w ≤ p * v = mul-le-mul_left p le in
    let b : q * k * w ≤ q * k * v = mul-le-mul_left (q * k) le in
    let c : q * (3 + (1 + (k * w + 0))) ≡ 4 * q + q * k * w = omega arith in
    let d : (p + k * q) * (3 + v) ≡ 3 * p + 3 * (q * k) + p * v + q * k * v = omega arith in
    let e : q * 2 ≤ q * k = mul-le-mul_left q two in
    omega (arith, a, b, c, d, e, one)

-- and so does one of several starts at a time
pub weight_long : (most k w v : ℕ) → 2 ≤ k → k ≤ most → w ≤ v → 1 + (most % k * w + (4 + most_starts (most / k) * (3 + (1 + (k * w + 0))) + 0)) ≤ 4 + most_starts most * (3 + v)
weight_long most k w v two le lt =
    let one : 1 ≤ most / k = some_turns most k (omega (arith, two)) le in
    let e : most_starts (most / k) ≡ most / k = omega (arith, one) in
    let f : most_starts most ≡ most % k + k * (most / k) = omega (arith, starts_divided most k, two, le) in
    subst (λ q. 1 + (most % k * w + (4 + q * (3 + (1 + (k * w + 0))) + 0)) ≤ 4 + most_starts most * (3 + v)) (sym e)
    (subst (λ m. 1 + (most % k * w + (4 + most / k * (3 + (1 + (k * w + 0))) + 0)) ≤ 4 + m * (3 + v)) (sym f)
    (weight_turned (most % k) k (most / k) w v two one lt))

-- how often its marks are reached
pub reach_short : (most w v : ℕ) → w ≤ v → most * w ≤ most_starts most * v
reach_short zero w v le = let f : zero * w ≡ 0 = omega arith in omega (arith, f)
reach_short (suc j) w v le =
    let e : most_starts (suc j) ≡ suc j = omega arith in
    subst (λ m. suc j * w ≤ m * v) (sym e) (mul-le-mul_left (suc j) le)

pub reach_long : (most k w v : ℕ) → 2 ≤ k → k ≤ most → w ≤ v → most % k * w + most_starts (most / k) * (k * w) ≤ most_starts most * v
reach_long most k w v two le lt =
    let one : 1 ≤ most / k = some_turns most k (omega (arith, two)) le in
    let e : most_starts (most / k) ≡ most / k = omega (arith, one) in
    let f : most_starts most ≡ most % k + k * (most / k) = omega (arith, starts_divided most k, two, le) in
    let a : most % k * w ≤ most % k * v = mul-le-mul_left (most % k) lt in
    let b : k * (most / k) * w ≤ k * (most / k) * v = mul-le-mul_left (k * (most / k)) lt in
    let c : most / k * (k * w) ≡ k * (most / k) * w = omega arith in
    let d : (most % k + k * (most / k)) * v ≡ most % k * v + k * (most / k) * v = omega arith in
    subst (λ q. most % k * w + q * (k * w) ≤ most_starts most * v) (sym e)
    (subst (λ m. most % k * w + most / k * (k * w) ≤ m * v) (sym f) (omega (arith, a, b, c, d)))
