-- From the least to the greatest of some numbers.
use Rattle.std.proofs.Common.{◌≡◌, ◌⊎◌, inl, inr, ℕ, ◌≤◌, Option, Some, None, subst, arith}
use Rattle.std.specs.Prelude.{min, max}
use Rattle.std.proofs.lemmas.Bool.{cases_lt}
use Rattle.register_live_ranges.specs.declared.interval.Interval.{Interval}
use Rattle.register_live_ranges.specs.Intervals.{IsHull, widened}

-- a number lies between two that were found
abbrev pub Covered : Option Interval → ℕ → Type 0
Covered None p = ⊥
Covered (Some i) p = (i.first ≤ p) × (p ≤ i.last)

-- both ends are such numbers
abbrev pub IsSound : (ℕ → Type 0) → Option Interval → Type 0
IsSound P None = Unit {0}
IsSound P (Some i) = P i.first × P i.last

pub covered_here : (o : Option Interval) (p : ℕ) → Covered (Some (widened o p)) p
covered_here None p = (omega arith, omega arith)
covered_here (Some i) p = (omega arith, omega arith)

pub covered_still : (o : Option Interval) (p q : ℕ) → Covered o q → Covered (Some (widened o p)) q
covered_still None p q h = absurd h
covered_still (Some i) p q h = let a = h.0 in let b = h.1 in (omega (arith, a), omega (arith, b))

pub covered_between : (o : Option Interval) (p r q : ℕ) → Covered o p → Covered o r → p ≤ q → q ≤ r → Covered o q
covered_between None p r q a b low high = absurd a
covered_between (Some i) p r q a b low high = let c = a.0 in let d = b.1 in (omega (arith, c, low), omega (arith, d, high))

cases_le : (a b : ℕ) → (a ≤ b) ⊎ (b ≤ a)
cases_le a b = elim (cases_lt a b) [ inl l ↦ inl (omega (arith, l)) | inr l ↦ inr l ]

pub least : (P : ℕ → Type 0) (a b : ℕ) → P a → P b → P (min a b)
least P a b x y = elim (order a b) [ inl e ↦ subst P e.1 x | inr e ↦ subst P e.1 y ]
  where
    order : (c d : ℕ) → ((c ≤ d) × (c ≡ min c d)) ⊎ ((d ≤ c) × (d ≡ min c d))
    order c d = elim (cases_le c d) [ inl l ↦ inl (l, omega (arith, l)) | inr l ↦ inr (l, omega (arith, l)) ]

pub greatest : (P : ℕ → Type 0) (a b : ℕ) → P a → P b → P (max a b)
greatest P a b x y = elim (order a b) [ inl e ↦ subst P e.1 y | inr e ↦ subst P e.1 x ]
  where
    order : (c d : ℕ) → ((c ≤ d) × (d ≡ max c d)) ⊎ ((d ≤ c) × (c ≡ max c d))
    order c d = elim (cases_le c d) [ inl l ↦ inl (l, omega (arith, l)) | inr l ↦ inr (l, omega (arith, l)) ]

pub sound_more : (P : ℕ → Type 0) (o : Option Interval) (p : ℕ) → IsSound P o → P p → IsSound P (Some (widened o p))
sound_more P None p h x = (x, x)
sound_more P (Some i) p h x = (least P i.first p h.0 x, greatest P i.last p h.1 x)

-- where all such numbers are covered, they are from the least to the greatest
pub hull : (P : ℕ → Type 0) (o : Option Interval) → IsSound P o → ((p : ℕ) → P p → Covered o p) → IsHull P o
hull P None sound all = λ p x. all p x
hull P (Some i) sound all = record { begins = sound.0; ends = sound.1; above = λ p x. (all p x).0; below = λ p x. (all p x).1 }
