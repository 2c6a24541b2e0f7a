-- What is reported of a source is what `compile` promises.
use Rattle.std.specs.Prelude.{◌≡◌, ◌≤◌, ℕ, Bool, List}
use Rattle.rv_core.specs.Table.{Table}
use Rattle.elf_image.specs.Loading.{IsLoadable, image_of}
use Rattle.elf_image.specs.Text.{text_of}
use Rattle.report_laws.specs.Typed.{IsTyped}
use Rattle.report_text.specs.Lines.{report_text}
use Rattle.report_text.specs.Reports.{Report}
use Rattle.promise_report.specs.Compiled.{IsCompiled}
use Rattle.facts_definitions.specs.declared.facts.Facts.{Facts}
use Rattle.facts_sources.specs.Sources.{IsSourceBy}
use Rattle.types_tree.specs.Tree.{Program}
use Rattle.compile_stages.specs.declared.made.Made.{Made}
use Rattle.low_ir.specs.Placings.{placed_of}
use Rattle.compile_stages.specs.Made.{IsMade}
use Rattle.compile_stages.specs.Placed.{placed_bytes}
use Rattle.compile_report_law.specs.Reported.{IsReported}

-- the text of an image loads as that image
pub record LoadsAsItself (m : Made) : Type 0 where
  pub loadable : IsLoadable (text_of m.laid.image)
  pub same : image_of (text_of m.laid.image) ≡ m.laid.image

-- where image and report have the ranges of their types, and what is placed takes at most so many bytes
abbrev pub ReportedAreCompiled : Type 0
ReportedAreCompiled =
    (derive : Bool) (spm : ℕ) (source : List ℕ) (names : List (List ℕ)) (program : Program) (facts : Facts) (m : Made) (t : Table) (r : Report) → IsSourceBy derive source names program facts → IsMade names program facts m → placed_bytes m.placement (placed_of m.code) ≤ spm → IsReported t names facts m r → LoadsAsItself m → IsTyped r
    → IsCompiled derive spm t source (text_of m.laid.image) (report_text r) r
