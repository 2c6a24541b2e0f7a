-- Arithmetic and order of two fractions p = a/b and q = c/d, multiplied out to whole numbers.
use Rattle.std.specs.Prelude.{◌≡◌, ◌⊎◌, ℤ, ◌+ℤ◌, ◌*ℤ◌, ◌<ℤ◌}
use Rattle.std.specs.Ordering.{MatchOrdering}
use Rattle.std.specs.declared.cmp.Ordering.{Ordering}
use Rattle.frac128.specs.Frac.{IsWide, IsSameRatio}
use Rattle.frac128.specs.declared.frac.Frac.{Frac}

-- a * d, the numerator of p over the denominator b * d
abbrev pub cross : Frac → Frac → ℤ
cross p q = p.num *ℤ q.den

-- f is the sum of p and q
abbrev pub IsSumOf : Frac → Frac → Frac → Type 0
IsSumOf p q f = IsSameRatio f.num f.den (cross p q +ℤ cross q p) (p.den *ℤ q.den)

-- a * d, c * b, b * d or a * d + c * b is too wide
abbrev pub IsSumWide : Frac → Frac → Type 0
IsSumWide p q = IsWide (cross p q) ⊎ IsWide (cross q p) ⊎ IsWide (p.den *ℤ q.den) ⊎ IsWide (cross p q +ℤ cross q p)

-- f is the product of p and q
abbrev pub IsProductOf : Frac → Frac → Frac → Type 0
IsProductOf p q f = IsSameRatio f.num f.den (p.num *ℤ q.num) (p.den *ℤ q.den)

-- a * c or b * d is too wide
abbrev pub IsProductWide : Frac → Frac → Type 0
IsProductWide p q = IsWide (p.num *ℤ q.num) ⊎ IsWide (p.den *ℤ q.den)

-- o says whether p is less than q, equal to it or greater
abbrev pub IsOrderOf : Frac → Frac → Ordering → Type 0
IsOrderOf p q o = MatchOrdering o (cross p q <ℤ cross q p) (cross p q ≡ cross q p) (cross q p <ℤ cross p q)

-- a * d or c * b is too wide
abbrev pub IsOrderWide : Frac → Frac → Type 0
IsOrderWide p q = IsWide (cross p q) ⊎ IsWide (cross q p)
