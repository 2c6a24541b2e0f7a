-- What is reported of a source tells its facts, and where the accesses of the image go.
use Rattle.std.specs.Prelude.{◌≤◌, ℕ, List}
use Rattle.rv_core.specs.Table.{Table}
use Rattle.code_flow_system.specs.Systems.{System, IsSystemOf}
use Rattle.report_text.specs.Reports.{Report}
use Rattle.promise_report.specs.Compiled.{AreLined, scratchpad_taken}
use Rattle.promise_report.specs.Facts.{TellsFacts}
use Rattle.facts_definitions.specs.declared.facts.Facts.{Facts}
use Rattle.facts_sources.specs.Sources.{IsSource}
use Rattle.types_tree.specs.Tree.{Program}
use Rattle.compile_stages.specs.declared.made.Made.{Made}
use Rattle.low_ir.specs.Placings.{placed_of}
use Rattle.compile_stages.specs.Made.{IsMade}
use Rattle.compile_stages.specs.Placed.{placed_bytes}
use Rattle.compile_report_law.specs.Reported.{IsReported}

-- a source is told in whole
abbrev pub ReportedTellFacts : Type 0
ReportedTellFacts =
    (source : List ℕ) (names : List (List ℕ)) (program : Program) (facts : Facts) (m : Made) (t : Table) (r : Report) → IsSource source names program facts → IsMade names program facts m → IsReported t names facts m r
    → TellsFacts program names facts r

-- each load and store lies in a line of regions, in which the image has bytes
abbrev pub ReportedAreLined : Type 0
ReportedAreLined =
    (source : List ℕ) (names : List (List ℕ)) (program : Program) (facts : Facts) (m : Made) (t : Table) (r : Report) (s : System) → IsSource source names program facts → IsMade names program facts m → IsReported t names facts m r → IsSystemOf m.laid.image r.claims s
    → AreLined m.laid.image r s

-- an image takes no more of the scratchpad than the sizes of what is placed there
abbrev pub MadeTakeWhatIsPlaced : Type 0
MadeTakeWhatIsPlaced =
    (source : List ℕ) (names : List (List ℕ)) (program : Program) (facts : Facts) (m : Made) → IsSource source names program facts → IsMade names program facts m → scratchpad_taken m.laid.image.segments ≤ placed_bytes m.placement (placed_of m.code)
