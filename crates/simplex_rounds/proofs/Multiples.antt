-- The common denominator of weights is a multiple of each of theirs.
use Rattle.std.proofs.Common.{◌≡◌, ℕ, zero, suc, ◌*◌, ◌/◌, ◌≤◌, ◌<◌, arith, sym, ap, ◌∙◌, subst, List, [], ◌∷◌, All, false}
use Rattle.std.specs.Int.{◌∣◌}
use Rattle.std.proofs.Math.Nat.{mul_comm, mul_assoc, mul-div_cancel', dvd-mul_left, dvd-mul_right, pos_of_dvd_of_pos}
use Rattle.std.proofs.lemmas.Nat.Gcd.{dvd_refl, dvd_trans, le_of_dvd}
use Rattle.std.proofs.lemmas.List.Elements.{All-cons, All-nil, All-head, All-tail}
use Rattle.simplex_tables.specs.Rows.{gcd}
use Rattle.simplex_tables.proofs.RowLemmas.{gcd_is}
use Rattle.simplex_rounds.specs.declared.weighing.Weight.{Weight}
use Rattle.simplex_rounds.specs.Limits.{is_narrow}
use Rattle.simplex_rounds.specs.Weighted.{multiple, denominator}
use Rattle.simplex_rounds.proofs.NarrowLemmas.{wide_above}

pub gcd_positive : (a b : ℕ) → 0 < b → 0 < gcd a b
gcd_positive a b h = pos_of_dvd_of_pos (gcd_is a b).1 h

some_product : (x y : ℕ) → 0 < x → 0 < y → 0 < x * y
some_product zero y h k = absurd (omega (arith, h))
some_product (suc x) zero h k = absurd (omega (arith, k))
some_product (suc x) (suc y) h k = omega arith

pub some_part : (g x b : ℕ) → g * x ≡ b → 0 < b → 0 < x
some_part g zero b e h = let z : g * 0 ≡ 0 = omega arith in absurd (omega (arith, e, z, h))
some_part g (suc x) b e h = omega arith

-- what is left of a number that isn't 0
pub part_positive : (a b : ℕ) → 0 < b → 0 < b / gcd a b
part_positive a b h = some_part (gcd a b) (b / gcd a b) b (mul-div_cancel' (gcd a b) (gcd_is a b).1) h

pub multiple_is : (m b : ℕ) → multiple m b ≡ m * (b / gcd m b)
multiple_is m b =
    let g = gcd_is m b in
    let e1 : gcd m b * (m / gcd m b) ≡ m = mul-div_cancel' (gcd m b) g.0 in
    let e2 : gcd m b * (b / gcd m b) ≡ b = mul-div_cancel' (gcd m b) g.1 in
    ap (λ x. (m / gcd m b) * x) (sym e2)
    ∙ (sym (mul_assoc (m / gcd m b) (gcd m b) (b / gcd m b))
    ∙ ap (λ x. x * (b / gcd m b)) (mul_comm (m / gcd m b) (gcd m b) ∙ e1))

-- of two numbers that aren't 0
pub multiple_positive : (m b : ℕ) → 0 < m → 0 < b → 0 < multiple m b
multiple_positive m b h k = subst (λ x. 0 < x) (sym (multiple_is m b)) (some_product m (b / gcd m b) h (some_part (gcd m b) (b / gcd m b) b (mul-div_cancel' (gcd m b) (gcd_is m b).1) k))

pub first_divides : (m b : ℕ) → m ∣ multiple m b
first_divides m b = subst (λ x. m ∣ x) (sym (multiple_is m b)) (dvd-mul_right m (b / gcd m b))

pub second_divides : (m b : ℕ) → b ∣ multiple m b
second_divides m b = dvd-mul_left b (m / gcd m b)

pub record IsDenominator (m : ℕ) (ws : List Weight) : Type 0 where
  pub before : m ∣ denominator m ws
  pub positive : 0 < denominator m ws
  pub each : All (λ w. w.bottom ∣ denominator m ws) ws

pub denominator_is : (m : ℕ) (ws : List Weight) → 0 < m → All (λ w. 0 < w.bottom) ws → IsDenominator m ws
denominator_is m [] h k = record { before = dvd_refl m; positive = h; each = All-nil (λ w. w.bottom ∣ m) }
denominator_is m (w ∷ ws) h k =
    let b = All-head (λ (w : Weight). 0 < w.bottom) w ws k in
    let some : 0 < multiple m w.bottom = multiple_positive m w.bottom h b in
    let r = denominator_is (multiple m w.bottom) ws some (All-tail (λ (w : Weight). 0 < w.bottom) w ws k) in record {
      before = dvd_trans m (first_divides m w.bottom) r.before;
      positive = r.positive;
      each = All-cons (λ (v : Weight). v.bottom ∣ denominator (multiple m w.bottom) ws) w ws (dvd_trans w.bottom (second_divides m w.bottom) r.before) r.each;
    }

-- a partial one that isn't narrow
pub wide_before : (n m : ℕ) (ws : List Weight) → 0 < m → All (λ w. 0 < w.bottom) ws → is_narrow n m ≡ false → is_narrow n (denominator m ws) ≡ false
wide_before n m ws h k e = let d = denominator_is m ws h k in wide_above n m (denominator m ws) (le_of_dvd d.positive d.before) e

-- a denominator of a weight that isn't narrow
pub wide_next : (n m : ℕ) (w : Weight) (ws : List Weight) → 0 < m → 0 < w.bottom → All (λ w. 0 < w.bottom) ws → is_narrow n w.bottom ≡ false → is_narrow n (denominator (multiple m w.bottom) ws) ≡ false
wide_next n m w ws h b k e =
    let some = multiple_positive m w.bottom h b in
    wide_before n (multiple m w.bottom) ws some k (wide_above n w.bottom (multiple m w.bottom) (le_of_dvd some (second_divides m w.bottom)) e)

-- a whole number of times
pub times_more : (n top all bottom : ℕ) → 0 < bottom → bottom ≤ all → is_narrow n top ≡ false → is_narrow n (top * (all / bottom)) ≡ false
times_more n top all bottom h le e = wide_above n top (top * (all / bottom)) (more (all / bottom) (some all bottom h le)) e
  where
    some : (a b : ℕ) → 0 < b → b ≤ a → 0 < a / b
    some a b h le = grind arith

    more : (q : ℕ) → 0 < q → top ≤ top * q
    more zero h = absurd (omega (arith, h))
    more (suc q) h = omega arith
