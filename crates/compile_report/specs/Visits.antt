-- A listed flow is at the addresses of an item less than 2^100 times.
use Rattle.std.specs.Prelude.{ℕ, List, All}
use Rattle.rv_core.specs.declared.costs.Costs.{Costs}
use Rattle.rv_core.specs.Table.{table_of}
use Rattle.claims_definition.specs.Movables.{movable_of}
use Rattle.spm_placement.specs.Gains.{HasFewVisits}
use Rattle.facts_definitions.specs.declared.facts.Facts.{Facts}
use Rattle.facts_sources.specs.Sources.{IsSource}
use Rattle.types_tree.specs.Tree.{Program}
use Rattle.report_text.specs.Reports.{Report}
use Rattle.compile_stages.specs.declared.made.Made.{Made}
use Rattle.compile_stages.specs.Made.{IsMade}
use Rattle.compile_report_law.specs.Reported.{IsReported}

-- that of the report on a source
abbrev pub FlowsVisitFew : Type 0
FlowsVisitFew =
    (source : List ℕ) (names : List (List ℕ)) (program : Program) (facts : Facts) (m : Made) (c : Costs) (r : Report) → IsSource source names program facts → IsMade names program facts m → IsReported (table_of c) names facts m r
    → All (λ i. HasFewVisits r.cert.flow.parts (movable_of i)) m.laid.lists.items.items
