-- Fractions of whole numbers: lowest terms, equal ratios and floors, and the bound on both parts.
use Rattle.std.specs.Prelude.{◌≡◌, ℕ, ◌≤◌, ◌<◌, ◌^◌, ℤ, ◌*ℤ◌, ◌≤ℤ◌, unsigned_abs}
use Rattle.std.specs.Int.{◌∣◌}

-- at most 2^126 in absolute value
abbrev pub IsSmall : ℤ → Type 0
IsSmall z = unsigned_abs z ≤ 2 ^ 126

-- past 2^126 in absolute value
abbrev pub IsWide : ℤ → Type 0
IsWide z = 2 ^ 126 < unsigned_abs z

-- 1 alone divides both numbers
abbrev pub IsLowest : ℤ → ℤ → Type 0
IsLowest a b = (d : ℕ) → d ∣ unsigned_abs a → d ∣ unsigned_abs b → d ≡ 1

-- a/b and c/d are one number, where neither b nor d is 0
abbrev pub IsSameRatio : ℤ → ℤ → ℤ → ℤ → Type 0
IsSameRatio a b c d = a *ℤ d ≡ c *ℤ b

-- q is the greatest whole number that is not greater than a/b, where b is positive
pub record IsFloor (a b q : ℤ) : Type 0 where
  pub not_greater : (q *ℤ b) ≤ℤ a
  pub greatest : (z : ℤ) → (z *ℤ b) ≤ℤ a → z ≤ℤ q
