-- Where a report holds of an image, nothing fails.
use Rattle.std.proofs.Common.{◌≡◌, ℕ, ◌⊎◌, inl, List, Result, Err, IsOk, refl, sym, ap, ◌∙◌, subst}
use Rattle.rv_core.specs.Table.{Table}
use Rattle.elf_image.specs.Loading.{image_of}
use Rattle.elf_image.proofs.FaultLemmas.{is_image}
use Rattle.code_flow_system.specs.Systems.{System}
use Rattle.report_text.specs.Reports.{Report}
use Rattle.report_reading.specs.declared.fault.ReportFault.{ReportFault}
use Rattle.report_reading.specs.Faults.{IsReportFault}
use Rattle.report_laws.proofs.OneReport.{one_report}
use Rattle.report_laws.proofs.TextLaws.{no_fault}
use Rattle.report_check.specs.declared.verdict.Cause.{Cause}
use Rattle.report_check.specs.declared.verdict.Cause.TheVariants.{NoImage, NoReport, BadClaim, NoCode, FailedRow, FailedShare, Memory}
use Rattle.report_check.specs.declared.verdict.Checked.{Checked}
use Rattle.std.specs.Prelude.{IsErrOf}
use Rattle.report_check.specs.Checks.{IsTextOf, HaveSystem, Holds, IsAccepted, Fails, StopsAt}
use Rattle.report_check.proofs.SystemLemmas.{one_system}

same_report : (text : List ℕ) (r s : Report) → IsTextOf text r → IsTextOf text s → r ≡ s
same_report text r s p q = one_report r s p.is_report q.is_report p.typed q.typed p.sums q.sums (sym p.text_is ∙ q.text_is)

-- no line of a report's text fails
pub stands : (text : List ℕ) (r : Report) (fault : ReportFault) → IsTextOf text r → IsReportFault text fault → ⊥
stands text r fault p e = no_fault r fault p.is_report p.typed p.sums (subst (λ (x : List ℕ). IsReportFault x fault) p.text_is e)

same_system : (image text : List ℕ) (r : Report) (s k : System) → HaveSystem image text r s → HaveSystem image text r k → s ≡ k
same_system image text r s k p q = one_system (image_of image) r.claims s k p.system q.system

-- two readings of the same bytes and text are one
pub holds_of : (t : Table) (image text : List ℕ) (r k : Report) (s : System) → IsTextOf text k → Holds t image text r s → Holds t image text k s
holds_of t image text r k s p h = subst (λ (x : Report). Holds t image text x s) (same_report text r k h.found.read.is_text p) h

pub holds_by : (t : Table) (image text : List ℕ) (r : Report) (s k : System) → HaveSystem image text r k → Holds t image text r s → Holds t image text r k
holds_by t image text r s k p h = subst (λ (x : System). Holds t image text r x) (same_system image text r s k h.found p) h

-- the given report and system hold
pub holds_for : (t : Table) (image text : List ℕ) (r : Report) (s : System) → HaveSystem image text r s → IsAccepted t image text → Holds t image text r s
holds_for t image text r s h a = holds_by t image text r a.system s h (holds_of t image text a.report r a.system h.read.is_text a.holds)

pub never_fails : (t : Table) (image text : List ℕ) (cause : Cause) → IsAccepted t image text → Fails t image text cause → ⊥
never_fails t image text (NoImage fault) a f = is_image image fault a.holds.found.read.loadable f
never_fails t image text (NoReport fault) a f = stands text a.report fault a.holds.found.read.is_text f.1
never_fails t image text (BadClaim index) a f =
    let h = holds_of t image text a.report f.report a.system f.read.is_text a.holds in
    h.found.system.no_bad index f.bad.holds
never_fails t image text (NoCode at) a f =
    let h = holds_of t image text a.report f.report a.system f.read.is_text a.holds in
    f.no_code.least.holds.no_code (h.found.system.code at f.no_code.least.holds.reached)
never_fails t image text (FailedRow row) a f =
    let h = holds_for t image text f.report f.system f.found a in
    f.refused h.accepted
never_fails t image text (FailedShare at) a f =
    let h = holds_for t image text f.report f.system f.found a in
    f.unfit (h.shares f.tells)
never_fails t image text Memory a f = f

pub never_stops : (t : Table) (image text : List ℕ) (cause : Cause) → IsAccepted t image text → StopsAt t image text cause → cause ≡ Memory
never_stops t image text (NoImage fault) a f = absurd (never_fails t image text (NoImage fault) a f)
never_stops t image text (NoReport fault) a f = absurd (never_fails t image text (NoReport fault) a f)
never_stops t image text (BadClaim index) a f = absurd (never_fails t image text (BadClaim index) a f)
never_stops t image text (NoCode at) a f = absurd (never_fails t image text (NoCode at) a f)
never_stops t image text (FailedRow row) a f = absurd (never_fails t image text (FailedRow row) a f)
never_stops t image text (FailedShare at) a f = absurd (never_fails t image text (FailedShare at) a f)
never_stops t image text Memory a f = refl

-- so nothing but want of memory can stop the check of a report that holds
pub only_memory : (t : Table) (image text : List ℕ) (cause : Cause) (r : Result Checked Cause) → r ≡ Err cause → StopsAt t image text cause → IsAccepted t image text → IsErrOf r Memory ⊎ IsOk r
only_memory t image text cause r e f a = inl (e ∙ ap (λ (c : Cause). Err c) (never_stops t image text cause a f))
