-- What is reported of a source is a report, and it holds of the image.
use Rattle.std.specs.Prelude.{◌≡◌, ℕ, List}
use Rattle.rv_core.specs.Table.{Table}
use Rattle.elf_image.specs.Loading.{IsLoadable, image_of}
use Rattle.elf_image.specs.Text.{text_of}
use Rattle.code_flow_system.specs.Systems.{System}
use Rattle.report_check.specs.Checks.{Holds}
use Rattle.report_laws.specs.Typed.{IsTyped}
use Rattle.report_text.specs.Forms.{IsReport}
use Rattle.report_text.specs.Lines.{report_text}
use Rattle.report_text.specs.Reports.{Report}
use Rattle.facts_definitions.specs.declared.facts.Facts.{Facts}
use Rattle.facts_sources.specs.Sources.{IsSource}
use Rattle.types_tree.specs.Tree.{Program}
use Rattle.compile_stages.specs.declared.made.Made.{Made}
use Rattle.compile_stages.specs.Made.{IsMade}
use Rattle.compile_report_law.specs.Reported.{IsReported}

-- it has the form of a report
abbrev pub ReportedAreReports : Type 0
ReportedAreReports =
    (source : List ℕ) (names : List (List ℕ)) (program : Program) (facts : Facts) (m : Made) (t : Table) (r : Report) → IsSource source names program facts → IsMade names program facts m → IsReported t names facts m r → IsReport r

-- the checker accepts its text with that of the image, where the text is one of that image and the numbers have the ranges of their types
abbrev pub ReportedHold : Type 0
ReportedHold =
    (source : List ℕ) (names : List (List ℕ)) (program : Program) (facts : Facts) (m : Made) (t : Table) (r : Report) → IsSource source names program facts → IsMade names program facts m → IsReported t names facts m r → IsTyped r → IsLoadable (text_of m.laid.image) → image_of (text_of m.laid.image) ≡ m.laid.image
    → (system : System) × Holds t (text_of m.laid.image) (report_text r) r system
