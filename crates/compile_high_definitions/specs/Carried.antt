-- What becomes of a source in the high form.
use Rattle.std.specs.Prelude.{◌≡◌, ℕ, ◌*◌, ◌^◌, ◌≤◌, List}
use Rattle.facts_definitions.specs.FlowFacts.{main_of}
use Rattle.facts_definitions.specs.declared.facts.Facts.{Facts}
use Rattle.types_tree.specs.Tree as c
use Rattle.plan_carried.specs.Sources.{planned_listing, source_behaviour}
use Rattle.plan_definition.specs.Programs.{program_planned}
use Rattle.high_ir.specs.Whole.{HasElements, IsWhole}
use Rattle.high_ir.specs.Formed.{IsHigh}
use Rattle.high_ir.specs.Tree.{Program}
use Rattle.high_ir.specs.Weight.{weight}
use Rattle.high_pass.specs.Carries.{Carries}
use Rattle.high_pass.specs.Composing.{Continues, composed}
use Rattle.high_pass.specs.Law.{FactorsWithin, IsLawful, ReachWithin}
use Rattle.high_pass.specs.Listing.{Listing}
use Rattle.compile_high_definitions.specs.Limits.{IsLimited}

-- the plan of a source, and what became in it of the source's marks and loops
pub record IsPlanned (names : List (List ℕ)) (source : c.Program) (facts : Facts) (p : Program) (listing : Listing) : Type 0 where
  pub program : p ≡ program_planned source facts (main_of source names)
  pub listed : listing ≡ planned_listing source facts

-- what a pass that promises this made of a program with its copies of a source, and of these
pub record IsPassed (did : Program → Program → Listing → Type 0) (old new : Program) (whole made : Listing) : Type 0 where
  pub step : Listing
  pub does : did old new step
  pub lawful : IsLawful old new step
  pub listed : made ≡ composed whole step
  pub continues : Continues old new whole made

-- what so many passes, whichever they are, make of the plan
pub record IsCarried (names : List (List ℕ)) (source : c.Program) (facts : Facts) (passes : ℕ) (p : Program) (listing : Listing) : Type 0 where
  pub is_high : IsHigh p
  -- each kept run of the source is a good run with the same output, value and counts; the copies are the marks and loops of the program, each once
  pub carries : Carries (source_behaviour source names facts) p listing
  -- a pass makes at most 64 starts of a loop one
  pub factors : FactorsWithin (64 ^ passes) listing
  -- what the bounds allow the program to do, by how many nodes of the source they allow to be executed
  pub weight : weight p ≤ 16 * facts.most
  pub reach : ReachWithin (λ mark. facts.most) p listing
  -- constants are words, and no array is empty
  pub whole : IsWhole p
  pub elements : HasElements p
  -- it has room in an image
  pub limited : IsLimited p
