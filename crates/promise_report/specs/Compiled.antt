-- What `compile` promises of the image and the report that it writes for a source, in six statements with a name each.
use Rattle.std.specs.Prelude.{◌≡◌, ℕ, ◌+◌, ◌<◌, ◌≤◌, List, [], ◌∷◌, Bool, true, Contains, All, if◌then◌else◌}
use Rattle.rv_core.specs.declared.image.Segment.{Segment}
use Rattle.rv_core.specs.declared.regions.Region.{Region}
use Rattle.rv_core.specs.declared.regions.Region.TheVariants.{Spm}
use Rattle.rv_core.specs.Images.{Image, LiesIn}
use Rattle.rv_core.specs.Regions.{lies_in}
use Rattle.rv_core.specs.Rows.{row_of}
use Rattle.rv_core.specs.Table.{Table, accesses}
use Rattle.elf_image.specs.Loading.{image_of}
use Rattle.elf_image.specs.Text.{text_of}
use Rattle.code_flow_system.specs.declared.claims.Within.{Within}
use Rattle.code_flow_system.specs.declared.moves.Move.{Move}
use Rattle.code_flow_system.specs.Bounds.{BoundsFlows, ReachesBound, HasNoFlow}
use Rattle.code_flow_system.specs.Certificates.{potential, whole_part}
use Rattle.code_flow_system.specs.MoveCosts.{lies_within, names}
use Rattle.code_flow_system.specs.Systems.{System}
use Rattle.facts_definitions.specs.declared.facts.Facts.{Facts}
use Rattle.facts_sources.specs.Sources.{IsSourceBy}
use Rattle.types_tree.specs.Tree.{Program}
use Rattle.code_flow_answer.specs.declared.bounded.Kind.{Kind}
use Rattle.code_flow_answer.specs.declared.bounded.Kind.TheVariants.{Greatest, Empty, Wide, Spent}
use Rattle.path_fact_kinds.specs.Causes.{IsSpent, IsWide}
use Rattle.path_fact_kinds.specs.Kinds.{IsBoundAlone}
use Rattle.report_check.specs.Checks.{Holds, IsTextOf}
use Rattle.report_text.specs.Reports.{Report}
use Rattle.promise_report.specs.Facts.{TellsFacts}
use Rattle.promise_report.specs.Runs.{RunsAsSource}

-- the image has bytes in the region
pub record HasSegmentIn (image : Image) (r : Region) : Type 0 where
  pub segment : Segment
  pub there : Contains image.segments segment
  pub filled : 0 < segment.size
  pub lies : LiesIn r segment

-- how much the segments in the scratchpad take
abbrev pub scratchpad_taken : List Segment → ℕ
scratchpad_taken [] = 0
scratchpad_taken (s ∷ ss) = (if lies_in Spm s.at then s.size else 0) + scratchpad_taken ss

-- a load or store lies in a line of regions, in each of which the image has bytes
pub record IsLined (image : Image) (lines : List Within) (m : Move) : Type 0 where
  pub line : Within
  pub there : Contains lines line
  pub within : lies_within line m.at ≡ true
  pub filled : (r : Region) → names line r ≡ true → HasSegmentIn image r

abbrev pub AreLined : Image → Report → System → Type 0
AreLined image r s = All (λ (m : Move). accesses (row_of m.instr.op).class ≡ true → IsLined image r.claims.regions m) s.moves

-- the written image and report: these are the texts of both, and the image takes at most so many bytes of the scratchpad
pub record AreWritten (spm : ℕ) (image_text report_text : List ℕ) (image : Image) (report : Report) : Type 0 where
  pub text_is : image_text ≡ text_of image
  pub loads : image_of image_text ≡ image
  pub scratchpad : scratchpad_taken image.segments ≤ spm
  pub report_is : IsTextOf report_text report
  pub version : report.version ≡ 2

-- the report's claims are the source's facts, and where accesses go
pub record ClaimsAreFacts (program : Program) (names : List (List ℕ)) (facts : Facts) (image : Image) (report : Report) (system : System) : Type 0 where
  pub told : TellsFacts program names facts report
  pub lined : AreLined image report system

-- a flow reaches the bound, or there is none and the cycles are 0; or the restrictions stopped the search: at a number of that pivot,
-- which was too wide, or when so many columns and pivots were made
abbrev pub IsReached : Kind → Table → System → Report → Type 0
IsReached Greatest costs system report = ReachesBound costs system report.cert
IsReached Empty costs system report = HasNoFlow system × (report.cert.cycles ≡ 0)
IsReached (Wide pivot) costs system report = IsBoundAlone system report.columns report.cert × IsWide costs system report.columns pivot
IsReached (Spent columns pivots) costs system report = IsBoundAlone system report.columns report.cert × IsSpent costs system report.columns columns pivots

-- the cycles are the greatest value of a flow, rounded down, or 0 where there is no flow, unless the report shows what stopped the search
pub record CyclesAreGreatest (costs : Table) (system : System) (report : Report) : Type 0 where
  pub bound : BoundsFlows costs system report.cert
  pub reached : IsReached report.kind costs system report
  pub rounded : report.cert.cycles ≡ whole_part (potential report.cert system.entry) report.cert.scale

-- the source of these bytes, the texts of an image and a report, and whether bounds were derived, how much of the scratchpad may be used, and the costs with which
-- they were made
pub record IsCompiled (derive : Bool) (spm : ℕ) (costs : Table) (source image_text report_text : List ℕ) (report : Report) : Type 0 where
  -- the source's typed program, and its facts
  pub names : List (List ℕ)
  pub program : Program
  pub facts : Facts
  pub is_source : IsSourceBy derive source names program facts
  -- the written image and report
  pub image : Image
  pub written : AreWritten spm image_text report_text image report
  -- on every input on which the source's run is defined and keeps its annotations, the image prints and returns what the source does,
  -- within the cycles of the report, and keeps what the report claims
  pub runs : RunsAsSource program names facts costs image report
  -- which are the source's facts
  pub system : System
  pub claims : ClaimsAreFacts program names facts image report system
  -- the report holds of the image: the checker accepts it
  pub holds : Holds costs image_text report_text report system
  -- its cycles are the greatest value of a flow, or there is none
  pub greatest : CyclesAreGreatest costs system report
