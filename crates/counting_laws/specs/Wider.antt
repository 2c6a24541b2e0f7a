-- Facts that have the bounds that are derived, and facts that have wider ones.
use Rattle.std.specs.Prelude.{◌≡◌, ℕ, ◌≤◌, true, List, Option, Some, None, is_some, All}
use Rattle.facts_definitions.specs.FlowFacts.{AreFacts}
use Rattle.facts_definitions.specs.Most.{bounds_at}
use Rattle.facts_definitions.specs.declared.facts.Bounds.{Bounds}
use Rattle.facts_definitions.specs.declared.facts.Facts.{Facts}
use Rattle.types_tree.specs.Tree.{Program}
use Rattle.types_seen.specs.Units.{HasTree}
use Rattle.facts_loops.specs.CountingLoops.{loops_of}
use Rattle.facts_loops.specs.declared.form.LoopForm.{LoopForm}

-- a loop has the bounds that are derived for it, where they are
abbrev pub HasOwn : (derived : Option Bounds) → Bounds → Type 0
HasOwn None bounds = Unit {0}
HasOwn (Some own) bounds = bounds ≡ own

-- facts of a typed program with the derived bounds
pub record HasDerived (names : List (List ℕ)) (program : Program) (facts : Facts) : Type 0 where
  pub tree : HasTree names program
  pub are_facts : AreFacts program names facts
  pub own : All (λ (l : LoopForm). HasOwn l.derived (bounds_at facts.bounds l.number)) (loops_of program)

-- bounds are wider at a loop for which they are derived, and the same at every other
abbrev pub MayWiden : (derived : Option Bounds) → (narrow wide : Bounds) → Type 0
MayWiden None narrow wide = wide ≡ narrow
MayWiden (Some own) narrow wide = (wide.min ≤ narrow.min) × (narrow.max ≤ wide.max)

-- facts that say the same of all else
pub record Widens (program : Program) (narrow wide : Facts) : Type 0 where
  pub ranks_are : wide.ranks ≡ narrow.ranks
  pub functions_are : wide.functions ≡ narrow.functions
  pub markers_are : wide.markers ≡ narrow.markers
  pub restrictions_are : wide.restrictions ≡ narrow.restrictions
  pub bounds : All (λ (l : LoopForm). MayWiden l.derived (bounds_at narrow.bounds l.number) (bounds_at wide.bounds l.number)) (loops_of program)

-- a place where no other loop stands than such for which bounds are derived
abbrev pub OnlyDerived : Program → (at : ℕ) → Type 0
OnlyDerived program at = All (λ (l : LoopForm). l.at ≡ at → is_some l.derived ≡ true) (loops_of program)
