-- What passes say of the bounds of a source's loops is what its facts say of their starts.
use Rattle.std.proofs.Common.{◌≡◌, ℕ, Bool, true, false, List, [], ◌∷◌, map, Option, Some, None, refl, ap, ◌∙◌, subst}
use Rattle.std.specs.Prelude.{◌==◌, option_map, if◌then◌else◌}
use Rattle.std.proofs.lemmas.Option.{same_Some}
use Rattle.facts_definitions.specs.declared.facts.Starts.{Starts}
use Rattle.facts_loops.specs.Factors as source
use Rattle.facts_loops.specs.Loops.{SourceLoop, starts_of}
use Rattle.high_ir.specs.Splitting.{by_factor, split}
use Rattle.high_ir.specs.Standing.{Bounds}
use Rattle.high_pass.specs.Carries.{AreBy, bounds_of}
use Rattle.plan_carried.specs.Loops.{as_bounds, bounded}

-- bounds as starts
abbrev pub as_starts : Bounds → Starts
as_starts b = record { least = b.least; most = b.most }

-- the bounds of the loop that has a number are its starts
bounds_are : (ls : List SourceLoop) (k : ℕ) → bounds_of (map bounded ls) k ≡ option_map as_bounds (starts_of ls k)
bounds_are [] k = refl
bounds_are (l ∷ ls) k = of l (l.number == k) (bounds_of (map bounded ls) k) (starts_of ls k) (bounds_are ls k)
  where
    of : (l : SourceLoop) (same : Bool) (b : Option Bounds) (s : Option Starts) → b ≡ option_map as_bounds s → (if same then Some (as_bounds l.starts) else b) ≡ option_map as_bounds (if same then Some l.starts else s)
    of l true b s h = refl
    of l false b s h = h

-- a factor makes the same of both
factor_is : (s : Starts) (k : ℕ) → as_starts (by_factor (as_bounds s) k) ≡ source.by_factor s k
factor_is s k = of s k (k == 1)
  where
    of : (s : Starts) (k : ℕ) (one : Bool) → as_starts (if one then as_bounds s else split (as_bounds s) k) ≡ (if one then s else source.split s k)
    of s k true = refl
    of s k false = refl

by_starts : (s : Option Starts) (k : ℕ) (new : Bounds) → AreBy (option_map as_bounds s) k (Some new) → source.AreBy s k (as_starts new)
by_starts None k new h = h
by_starts (Some s) k new h = ap as_starts (same_Some new (by_factor (as_bounds s) k) h) ∙ factor_is s k

pub AreBy-starts : (ls : List SourceLoop) (number k : ℕ) (new : Bounds) → AreBy (bounds_of (map bounded ls) number) k (Some new) → source.AreBy (starts_of ls number) k (as_starts new)
AreBy-starts ls number k new h = by_starts (starts_of ls number) k new (subst (λ b. AreBy b k (Some new)) (bounds_are ls number) h)
