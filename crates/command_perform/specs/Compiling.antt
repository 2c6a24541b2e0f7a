-- What `compile` makes of a source: an image that does what the source does, and a report whose cycles bound its runs.
use Rattle.std.specs.Prelude.{◌≡◌, ◌≤◌, ◌^◌, ℕ, Bool, List, [], ◌∷◌, length}
use Rattle.wcc_base.specs.declared.status.Status.{Status}
use Rattle.wcc_base.specs.declared.status.Status.TheVariants as status
use Rattle.rv_core.specs.Table.{Table}
use Rattle.facts_definitions.specs.declared.facts.Facts.{Facts}
use Rattle.types_tree.specs.Tree.{Program}
use Rattle.facts_sources.specs.Sources.{IsSourceBy}
use Rattle.report_text.specs.Reports.{Report}
use Rattle.promise_compiler.specs.declared.refusal.Refusal.{Refusal}
use Rattle.promise_compiler.specs.declared.refusal.Refusal.TheVariants.{Front, Memory}
use Rattle.promise_compiler.specs.Lengths.{AreShort}
use Rattle.promise_report.specs.Compiled.{IsCompiled}
use Rattle.command_words.specs.Requests.{CompileRequest, scratchpad_of}
use Rattle.command_perform.specs.declared.compile.Texts.{Texts}
use Rattle.command_perform.specs.Lines.{cycles_line}
use Rattle.command_perform.specs.Outputs.{Outputs}
use Rattle.command_perform.specs.Sources.{refusal_status}

-- a source that isn't compiled has no program with facts
abbrev pub compile_status : Refusal → Status
compile_status (Front refusal) = refusal_status refusal
compile_status Memory = status.Memory

-- with these costs and so many bytes of the scratchpad, the image and the report keep what is promised of the source, and the line says
-- the bound and its kind
pub record Compiles (derive : Bool) (spm : ℕ) (costs : Table) (source : List ℕ) (t : Texts) : Type 0 where
  pub report : Report
  pub compiled : IsCompiled derive spm costs source t.image t.report report
  -- no run that keeps within the bound ends at a limit of cycles
  pub small : report.cert.cycles ≤ 2 ^ 62
  -- of a source within its limit, both texts are within theirs
  pub short : length source ≤ 1048576 → AreShort t.image t.report
  pub line_is : t.line ≡ cycles_line report.cert.cycles report.kind

-- the image, then the report
abbrev pub compiled_outputs : CompileRequest → Texts → Outputs
compiled_outputs asked t = record {
  status = status.Done;
  files = (asked.image, t.image) ∷ (asked.report, t.report) ∷ [];
  lines = t.line;
}

pub record MakesImage (asked : CompileRequest) (costs : Table) (source : List ℕ) (made : Outputs) : Type 0 where
  pub texts : Texts
  pub compiles : Compiles asked.derive (scratchpad_of asked) costs source texts
  pub made_is : made ≡ compiled_outputs asked texts

-- the source has a program with facts
pub record IsCompilable (derive : Bool) (source : List ℕ) : Type 0 where
  pub names : List (List ℕ)
  pub program : Program
  pub facts : Facts
  pub is_source : IsSourceBy derive source names program facts
