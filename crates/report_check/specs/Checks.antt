-- What a check of an image and a report comes to: a bound of the image's runs, or what fails first, in the order of these equations.
use Rattle.std.specs.Prelude.{◌≡◌, ℕ, ◌≤◌, List, Some, All}
use Rattle.rv_core.specs.Table.{Table}
use Rattle.rv_core.specs.Images.{Image}
use Rattle.rv_core.specs.Runs.{setup, mrun}
use Rattle.elf_image.specs.Loading.{IsLoadable, image_of}
use Rattle.elf_image.specs.Faults.{IsNoImage}
use Rattle.code_flow_system.specs.declared.cert.Mark.TheVariants as marks
use Rattle.code_flow_system.specs.Claims.{Claims, AreSums}
use Rattle.code_flow_system.specs.Systems.{System, IsSystemOf, IsFirstBad, IsFirstNoCode}
use Rattle.code_flow_system.specs.Certificates.{Accepts}
use Rattle.code_flow_system.specs.KeptRuns.{KeepsClaims}
use Rattle.dual_check.specs.declared.row.Row.{Row}
use Rattle.dual_check.specs.Verdicts.{IsFirst, is_greatest}
use Rattle.report_text.specs.Reports.{Report}
use Rattle.report_text.specs.Forms.{IsReport}
use Rattle.report_text.specs.Lines.{report_text}
use Rattle.report_shares.specs.Shares.{SharesFit}
use Rattle.report_shares.specs.Faults.{share_fault}
use Rattle.report_reading.specs.Faults.{IsReportFault}
use Rattle.report_laws.specs.Typed.{IsTyped}
use Rattle.report_check.specs.declared.verdict.Cause.{Cause}
use Rattle.report_check.specs.declared.verdict.Cause.TheVariants.{NoImage, NoReport, BadClaim, NoCode, FailedRow, FailedShare, Memory}
use Rattle.report_check.specs.declared.verdict.Checked.{Checked}

-- the text is that of this report, whose numbers have the ranges of their types and whose sums their one form
pub record IsTextOf (text : List ℕ) (r : Report) : Type 0 where
  pub is_report : IsReport r
  pub typed : IsTyped r
  pub sums : All AreSums r.claims.facts
  pub text_is : text ≡ report_text r

-- the bytes load as an image, and the text is that of the report
pub record AreRead (image text : List ℕ) (r : Report) : Type 0 where
  pub loadable : IsLoadable image
  pub is_text : IsTextOf text r

-- besides, no claim is bad and all reached addresses are code, so that there is a flow system
pub record HaveSystem (image text : List ℕ) (r : Report) (s : System) : Type 0 where
  pub read : AreRead image text r
  pub system : IsSystemOf (image_of image) r.claims s

-- a report of version 2 says how a greatest bound is shared among the functions
pub record TellsShares (r : Report) : Type 0 where
  pub version : r.version ≡ 2
  pub mark : r.cert.mark ≡ marks.Greatest

-- besides, the certificate is accepted, and the shares fit where they are told
pub record Holds (t : Table) (image text : List ℕ) (r : Report) (s : System) : Type 0 where
  pub found : HaveSystem image text r s
  pub accepted : Accepts t s r.cert
  pub shares : TellsShares r → SharesFit t s r.cert.flow.parts r.shares

-- the text is that of a report that holds of the image
pub record IsAccepted (t : Table) (image text : List ℕ) : Type 0 where
  pub report : Report
  pub system : System
  pub holds : Holds t image text report system

-- each finished run of the image that keeps the claims, on any input, takes at most so many cycles
abbrev pub BoundsRuns : Table → Image → Claims → ℕ → Type 0
BoundsRuns t image claims cycles = (input : List ℕ) (n : ℕ) → KeepsClaims claims (mrun (setup image t input) n) → (mrun (setup image t input) n).state.cycles ≤ cycles

-- the report holds and has these cycles, and they bound the runs that keep its claims
pub record IsChecked (t : Table) (image text : List ℕ) (c : Checked) : Type 0 where
  pub report : Report
  pub system : System
  pub holds : Holds t image text report system
  pub cycles : c.cycles ≡ report.cert.cycles
  pub greatest : c.greatest ≡ is_greatest report.cert.mark
  pub runs : BoundsRuns t (image_of image) report.claims c.cycles

-- what fails first

pub record HasBadClaim (image text : List ℕ) (index : ℕ) : Type 0 where
  pub report : Report
  pub read : AreRead image text report
  pub bad : IsFirstBad (image_of image) report.claims index

pub record HasNoCode (image text : List ℕ) (at : ℕ) : Type 0 where
  pub report : Report
  pub read : AreRead image text report
  pub no_code : IsFirstNoCode (image_of image) report.claims at

pub record HasFailedRow (t : Table) (image text : List ℕ) (row : Row) : Type 0 where
  pub report : Report
  pub system : System
  pub found : HaveSystem image text report system
  pub fails : IsFirst t system report.cert row
  pub refused : ¬ Accepts t system report.cert

pub record HasFailedShare (t : Table) (image text : List ℕ) (at : ℕ) : Type 0 where
  pub report : Report
  pub system : System
  pub found : HaveSystem image text report system
  pub accepted : Accepts t system report.cert
  pub tells : TellsShares report
  pub fails : share_fault t system report.cert.flow.parts report.shares ≡ Some at
  pub unfit : ¬ SharesFit t system report.cert.flow.parts report.shares

abbrev pub Fails : Table → (image text : List ℕ) → Cause → Type 0
Fails t image text (NoImage fault) = IsNoImage image fault
Fails t image text (NoReport fault) = IsLoadable image × IsReportFault text fault
Fails t image text (BadClaim index) = HasBadClaim image text index
Fails t image text (NoCode at) = HasNoCode image text at
Fails t image text (FailedRow row) = HasFailedRow t image text row
Fails t image text (FailedShare at) = HasFailedShare t image text at
Fails t image text Memory = ⊥

-- the same, or memory ran out
abbrev pub StopsAt : Table → (image text : List ℕ) → Cause → Type 0
StopsAt t image text Memory = Unit {0}
StopsAt t image text cause = Fails t image text cause
