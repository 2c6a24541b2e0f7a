-- The plan of a source is carried, and so is what passes make of it.
use Rattle.std.specs.Prelude.{ℕ, suc, List}
use Rattle.facts_definitions.specs.FlowFacts.{main_of}
use Rattle.facts_definitions.specs.declared.facts.Facts.{Facts}
use Rattle.facts_sources.specs.Sources.{IsSource}
use Rattle.types_tree.specs.Tree as c
use Rattle.high_ir.specs.Formed.{IsHigh}
use Rattle.high_ir.specs.Tree.{Program}
use Rattle.high_pass.specs.Composing.{Continues}
use Rattle.high_pass.specs.Law.{IsLawful}
use Rattle.high_pass.specs.Listing.{Listing}
use Rattle.plan_definition.specs.Programs.{program_planned}
use Rattle.compile_high_definitions.specs.Carried.{IsCarried, IsPlanned}
use Rattle.compile_high_definitions.specs.Limits.{IsLimited}

-- the plan of a source keeps the limits
abbrev pub PlansKeepLimits : Type 0
PlansKeepLimits = (source : List ℕ) (names : List (List ℕ)) (program : c.Program) (facts : Facts) → IsSource source names program facts → IsLimited (program_planned program facts (main_of program names))

-- and so does what passes make of it
abbrev pub PassesKeepLimits : Type 0
PassesKeepLimits = (old new : Program) (listing : Listing) → IsLawful old new listing → IsLimited old → IsLimited new

-- it is carried before any pass
abbrev pub PlansAreCarried : Type 0
PlansAreCarried = (source : List ℕ) (names : List (List ℕ)) (program : c.Program) (facts : Facts) (p : Program) (listing : Listing) → IsSource source names program facts → IsPlanned names program facts p listing → IsCarried names program facts 0 p listing

-- and behind one more, whose copies of copies continue those of the passes before it
abbrev pub PassesCarry : Type 0
PassesCarry =
    (names : List (List ℕ)) (program : c.Program) (facts : Facts) (passes : ℕ) (old new : Program) (whole step made : Listing) → IsCarried names program facts passes old whole → IsHigh new → IsLawful old new step → Continues old new whole made
    → IsCarried names program facts (suc passes) new made
