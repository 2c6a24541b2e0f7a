-- The texts of what a source becomes are short.
use Rattle.std.specs.Prelude.{ℕ, ◌≤◌, List, length}
use Rattle.rv_core.specs.Table.{Table}
use Rattle.elf_image.specs.Text.{text_of}
use Rattle.report_laws.specs.Typed.{IsTyped}
use Rattle.report_text.specs.Lines.{report_text}
use Rattle.report_text.specs.Reports.{Report}
use Rattle.promise_compiler.specs.Lengths.{AreShort}
use Rattle.facts_definitions.specs.declared.facts.Facts.{Facts}
use Rattle.facts_sources.specs.Sources.{IsSource}
use Rattle.types_tree.specs.Tree.{Program}
use Rattle.compile_stages.specs.declared.made.Made.{Made}
use Rattle.compile_stages.specs.Made.{IsMade}
use Rattle.compile_report_law.specs.Reported.{IsReported}

-- where the numbers of the report have the ranges of their types
abbrev pub TextsAreShort : Type 0
TextsAreShort =
    (source : List ℕ) (names : List (List ℕ)) (program : Program) (facts : Facts) (m : Made) (t : Table) (r : Report) → length source ≤ 1048576 → IsSource source names program facts → IsMade names program facts m → IsReported t names facts m r → IsTyped r
    → AreShort (text_of m.laid.image) (report_text r)
