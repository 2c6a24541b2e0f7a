-- The machine that runs the image of a source does what the source does, as is reported.
use Rattle.std.specs.Prelude.{ℕ, List}
use Rattle.rv_core.specs.Table.{Table}
use Rattle.report_text.specs.Reports.{Report}
use Rattle.promise_report.specs.Runs.{RunsAsSource}
use Rattle.facts_definitions.specs.declared.facts.Facts.{Facts}
use Rattle.facts_sources.specs.Sources.{IsSource}
use Rattle.types_tree.specs.Tree.{Program}
use Rattle.compile_stages.specs.declared.made.Made.{Made}
use Rattle.compile_stages.specs.Made.{IsMade}
use Rattle.compile_report_law.specs.Reported.{IsReported}

abbrev pub ReportedRunAsSources : Type 0
ReportedRunAsSources =
    (source : List ℕ) (names : List (List ℕ)) (program : Program) (facts : Facts) (m : Made) (t : Table) (r : Report) → IsSource source names program facts → IsMade names program facts m → IsReported t names facts m r
    → RunsAsSource program names facts t m.laid.image r
