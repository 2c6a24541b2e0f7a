-- Sizes and quotients of whole numbers over common denominators.
use Rattle.std.proofs.Common.{◌≡◌, ℕ, ◌+◌, ◌*◌, ◌≤◌, ◌<◌, ◌^◌, ℤ, pos, ◌+ℤ◌, ◌*ℤ◌, ◌≤ℤ◌, ◌<ℤ◌, arith, ap, unsigned_abs}
use lib.IntN.{negsuc, *ℤ_comm}
use Rattle.std.proofs.lemmas.Int.{ints}
use Rattle.std.proofs.Math.Nat.{mul-le-mul_left}
use Rattle.frac128.proofs.SignedLemmas.{add-mul, mul_assoc, mul-mul_swap, mul-le, mul-lt, le_of_mul-le, le_of_mul-lt}
use Rattle.code_flow_system.specs.Certificates.{IsNarrow, IsSmall}

product : (a b : ℕ) → pos (a * b) ≡ pos a *ℤ pos b
product a b = omega (arith, ints)

-- times a common denominator, and the other way
pub reached_by : (m d : ℕ) (z v o r : ℤ) → pos 0 <ℤ o → (o *ℤ v) ≡ (pos m *ℤ r) → (z *ℤ o) ≤ℤ (r *ℤ pos d) → (pos d *ℤ v) ≤ℤ (pos m *ℤ z) → (pos d *ℤ v) ≡ (pos m *ℤ z)
reached_by m d z v o r some same still most =
    let a = mul-le m (z *ℤ o) (r *ℤ pos d) still in
    let b = mul_assoc (pos m) z o in
    let c = mul_assoc (pos m) r (pos d) in
    let e : ((o *ℤ v) *ℤ pos d) ≡ ((pos m *ℤ r) *ℤ pos d) = ap (λ (x : ℤ). x *ℤ pos d) same in
    let f = mul_assoc o v (pos d) in
    let g = *ℤ_comm o (v *ℤ pos d) in
    let i : ((v *ℤ pos d) *ℤ o) ≡ ((pos d *ℤ v) *ℤ o) = ap (λ (x : ℤ). x *ℤ o) (*ℤ_comm v (pos d)) in
    let l = le_of_mul-le (pos m *ℤ z) (pos d *ℤ v) o some (omega (arith, ints)) in omega (arith, ints)

-- two equal numbers below 2^93 are narrow together
pub narrow_same : (a b : ℤ) → pos 0 ≤ℤ a → a <ℤ pos (2 ^ 93) → b ≡ a → IsNarrow (unsigned_abs a + unsigned_abs b)
narrow_same a b h lt e = let x = size a h lt in let y = ap unsigned_abs e in omega (arith, x, y)
  where
    size : (a : ℤ) → pos 0 ≤ℤ a → a <ℤ pos (2 ^ 93) → unsigned_abs a < 2 ^ 93
    size (pos n) h lt = omega (arith, ints)
    size (negsuc n) h lt = absurd (omega (arith, ints))

pub narrow_alone : (z : ℤ) → pos 0 ≤ℤ z → z <ℤ pos (2 ^ 44 * 2 ^ 60) → IsNarrow (unsigned_abs z)
narrow_alone (pos n) h lt = let l : n < 2 ^ 44 * 2 ^ 60 = omega (arith, ints) in omega (arith, l)
narrow_alone (negsuc n) h lt = absurd (omega (arith, ints))

mul_le_right : (k m l : ℕ) → m ≤ l → m * k ≤ l * k
mul_le_right k m l h = let e : k * m ≤ k * l = mul-le-mul_left k h in let c : k * m ≡ m * k = omega arith in let d : k * l ≡ l * k = omega arith in omega (arith, c, d, e)

-- so many units of less than k each
pub units_below : (m l k : ℕ) (z : ℤ) → m ≤ l → z <ℤ (pos m *ℤ pos k) → z <ℤ pos (l * k)
units_below m l k z h lt =
    let a = mul_le_right k m l h in
    let b = product m k in omega (arith, ints)

pub small_one : (u n : ℕ) → u * (n + 1) ≤ 2 ^ 44 → u ≤ 2 ^ 44
small_one u n h = let e : u * (n + 1) ≡ u * n + u = omega arith in omega (arith, e, h)

pub small_part : (u : ℕ) → pos u <ℤ pos (2 ^ 44 * 2 ^ 60) → IsSmall (pos u)
small_part u h = let c : u < 2 ^ 44 * 2 ^ 60 = omega (arith, ints) in omega (arith, c)

lt_of_mul-lt : (m : ℕ) (a b : ℤ) → 0 < m → (pos m *ℤ a) <ℤ (pos m *ℤ b) → a <ℤ b
lt_of_mul-lt m a b h lt =
    let c = *ℤ_comm (pos m) a in
    let d = *ℤ_comm (pos m) b in
    let e = add-mul a (pos 1) (pos m) in
    let o : pos 1 *ℤ pos m ≡ pos m = omega (arith, ints) in
    let l = le_of_mul-lt (a +ℤ pos 1) b (pos m) (omega (arith, ints)) (omega (arith, ints)) in omega (arith, ints)

-- a number of a value that stays below k units
pub quotient_below : (d m k : ℕ) (v z : ℤ) → 0 < m → 0 < d → v <ℤ (pos m *ℤ pos k) → (pos d *ℤ v) ≡ (pos m *ℤ z) → z <ℤ pos (d * k)
quotient_below d m k v z some scale lt e =
    let a = mul-lt v (pos m *ℤ pos k) (pos d) (omega (arith, ints)) lt in
    let b = *ℤ_comm v (pos d) in
    let c = *ℤ_comm (pos m *ℤ pos k) (pos d) in
    let s = mul-mul_swap (pos d) (pos m) (pos k) in
    let p : (pos m *ℤ pos (d * k)) ≡ (pos m *ℤ (pos d *ℤ pos k)) = ap (λ (y : ℤ). pos m *ℤ y) (product d k) in
    lt_of_mul-lt m z (pos (d * k)) some (omega (arith, ints))
