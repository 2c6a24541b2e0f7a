-- Bounds that are written, and bounds that were derived.
use Rattle.std.proofs.Common.{◌≡◌, ℕ, ◌≤◌, Bool, true, false, ◌&&◌, List, [], ◌∷◌, Option, Some, None, refl, arith, All}
use Rattle.std.specs.Prelude.{if◌then◌else◌, nat_eq, nat_le, codes}
use Rattle.std.proofs.lemmas.Bool.{leb-true}
use Rattle.std.proofs.lemmas.List.Elements.{All-head, All-tail}
use Rattle.facts_definitions.specs.FlowFacts.{IsDerived, derived_bounds, or_none}
use Rattle.facts_definitions.specs.Most.{no_bounds}
use Rattle.facts_definitions.specs.PragmaTexts.{at_most, bounded, bounds_among, loop_bounds, number, pragma_runs, same_bytes}
use Rattle.facts_definitions.specs.declared.facts.Derived.{Derived}
use Rattle.types_tree.specs.Tree.{Program}
use Rattle.plan_formed.specs.Small.{Small}

none_small : Small no_bounds
none_small = (omega arith, omega arith)

abbrev Within : Option ℕ → Type 0
Within None = Unit {0}
Within (Some n) = n ≤ 2147483647

within : (o : Option ℕ) → Within (at_most 2147483647 o)
within None = tt
within (Some n) = of (nat_le n 2147483647) refl
  where
    of : (b : Bool) → nat_le n 2147483647 ≡ b → Within (if b then Some n else None)
    of true e = leb-true n 2147483647 e
    of false e = tt

bounded_small : (a b : Option ℕ) → Within a → Within b → Small (or_none (bounded a b))
bounded_small None None h g = none_small
bounded_small None (Some n) h g = none_small
bounded_small (Some m) None h g = none_small
bounded_small (Some m) (Some n) h g = of (nat_le m n)
  where
    of : (t : Bool) → Small (or_none (if t then Some (record { min = m; max = n }) else None))
    of true = (h, g)
    of false = none_small

among_small : (runs : List (List ℕ)) → Small (or_none (bounds_among runs))
among_small [] = none_small
among_small (min ∷ []) = none_small
among_small (min ∷ a ∷ []) = none_small
among_small (min ∷ a ∷ max ∷ []) = none_small
among_small (min ∷ a ∷ max ∷ b ∷ []) = of (same_bytes min (codes "min") && same_bytes max (codes "max"))
  where
    of : (t : Bool) → Small (or_none (if t then bounded (at_most 2147483647 (number a)) (at_most 2147483647 (number b)) else None))
    of true = bounded_small (at_most 2147483647 (number a)) (at_most 2147483647 (number b)) (within (number a)) (within (number b))
    of false = none_small
among_small (min ∷ a ∷ max ∷ b ∷ other ∷ rest) = none_small

pub written_small : (text : List ℕ) → Small (or_none (loop_bounds text))
written_small text = among_small (pragma_runs text)

pub derived_small : (program : Program) (ds : List Derived) → All (IsDerived program) ds → (loop : ℕ) → Small (or_none (derived_bounds ds loop))
derived_small program [] all loop = none_small
derived_small program (d ∷ rest) all loop = of (nat_eq d.number loop) (derived_small program rest (All-tail (IsDerived program) d rest all) loop)
  where
    of : (t : Bool) → Small (or_none (derived_bounds rest loop)) → Small (or_none (if t then Some d.bounds else derived_bounds rest loop))
    of true others = let is = All-head (IsDerived program) d rest all in (omega (arith, is.ordered, is.limited), is.limited)
    of false others = others
