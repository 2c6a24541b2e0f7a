-- What the plan of a source keeps.
use Rattle.std.specs.Prelude.{◌≡◌, ℕ, ◌*◌, ◌≤◌, List, []}
use Rattle.facts_definitions.specs.declared.facts.Facts.{Facts}
use Rattle.types_tree.specs.Tree as c
use Rattle.high_ir.specs.Formed.{IsHigh}
use Rattle.high_ir.specs.Tree.{Program}
use Rattle.high_ir.specs.Weight.{weight}
use Rattle.high_pass.specs.Carries.{Carries}
use Rattle.high_pass.specs.Law.{FactorsWithin, ReachWithin, WithinBudgets}
use Rattle.high_pass.specs.Listing.{Listing}
use Rattle.plan_carried.specs.Sources.{source_behaviour}

-- a program in the high form for a source, with what became of the source's marks and loops
pub record KeepsSource (names : List (List ℕ)) (source : c.Program) (facts : Facts) (p : Program) (listing : Listing) : Type 0 where
  pub is_high : IsHigh p
  -- each kept run is a good run with the same output, value and counts; the copies are the marks and loops of the program, each once
  pub carries : Carries (source_behaviour source names facts) p listing
  -- loops carry their starts, and no start is unrolled
  pub factors : FactorsWithin 1 listing
  pub nevers : listing.nevers ≡ []
  -- what the bounds allow the program to do, by how many nodes of the source they allow to be executed
  pub weight : weight p ≤ 16 * facts.most
  pub reach : ReachWithin (λ mark. facts.most) p listing
  -- it is as small as passes ask
  pub budgets : WithinBudgets p
