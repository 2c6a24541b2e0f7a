-- A worth beside a loose one: open, or blocked.
use Rattle.std.specs.Prelude.{◌⊎◌, ℤ, pos, neg_ℤ, ◌+ℤ◌, ◌≤ℤ◌, Option, Some, None}

-- no larger in size
abbrev pub IsUpTo : ℤ → ℤ → Type 0
IsUpTo v l = (neg_ℤ l ≤ℤ v) × (v ≤ℤ l)

-- open: no larger in size than the loose worth; or blocked: at most the loose worth and that of a block, which is negative
abbrev pub IsNear : ℤ → ℤ → ℤ → Type 0
IsNear low v l = IsUpTo v l ⊎ (v ≤ℤ (l +ℤ low))

-- a way, if there is one, and a loose one then, which isn't negative
abbrev pub IsNearWay : ℤ → Option ℤ → Option ℤ → Type 0
IsNearWay low None o = Unit {0}
IsNearWay low (Some v) None = ⊥
IsNearWay low (Some v) (Some l) = (pos 0 ≤ℤ l) × IsNear low v l

-- where there is a loose way, a further cost before it makes a way that is no longer than that one
abbrev pub PaysFurther : ℤ → Option ℤ → Option ℤ → Type 0
PaysFurther c None o = Unit {0}
PaysFurther c (Some t) None = ⊥
PaysFurther c (Some t) (Some u) = (c +ℤ t) ≤ℤ u

-- a way, if there is one, and a price behind it are no more than that
abbrev pub IsAtMost : Option ℤ → ℤ → ℤ → Type 0
IsAtMost None c most = Unit {0}
IsAtMost (Some t) c most = (t +ℤ c) ≤ℤ most

-- there is a way that isn't negative
abbrev pub IsThere : Option ℤ → Type 0
IsThere None = ⊥
IsThere (Some t) = pos 0 ≤ℤ t
