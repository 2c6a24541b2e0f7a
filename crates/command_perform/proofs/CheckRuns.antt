-- What a check answers, as the statuses of the command; and what a report that holds leaves open.
use Rattle.std.proofs.Common.{◌≡◌, ◌⊎◌, ℕ, List, [], ◌∷◌, Option, Some, None, sym, ap, subst, inl, inr, ⊎_elim}
use Rattle.std.specs.Prelude.{IsSomeAnd}
use Rattle.wcc_base.specs.Outside.{Files, StoreState, bytes_of}
use Rattle.wcc_base.specs.declared.status.Status.{Status}
use Rattle.wcc_base.specs.declared.status.Status.TheVariants as status
use Rattle.rv_core.specs.Table.{Table}
use Rattle.dual_check.specs.declared.row.Row.{Row}
use Rattle.dual_check.specs.declared.row.Row.TheVariants.{Missing, Sign, Wide, Move, Value, Flow, Unmet, Greatest, Empty}
use Rattle.report_reading.specs.declared.fault.ReportFault.{ReportFault}
use Rattle.report_reading.specs.declared.fault.ReportFault.TheVariants.{Line, Number}
use Rattle.report_reading.specs.declared.fault.ReportFault.TheVariants.{Memory as NoMemory}
use Rattle.report_reading.specs.Reading.{StopsAt as StopsReading}
use Rattle.report_check.specs.declared.verdict.Cause.{Cause}
use Rattle.report_check.specs.declared.verdict.Cause.TheVariants.{NoImage, NoReport, BadClaim, NoCode, FailedRow, FailedShare, Memory}
use Rattle.report_check.specs.Checks.{StopsAt}
use Rattle.report_check.specs.Checks.{IsAccepted}
use Rattle.report_check.proofs.ExclusionLemmas.{never_fails, stands}
use Rattle.command_words.specs.Requests.{CheckRequest, ReportRequest}
use Rattle.command_perform.specs.Words.{Named, Check, Report}
use Rattle.command_perform.specs.Outputs.{Outputs}
use Rattle.command_perform.specs.Ends.{IsRefusal}
use Rattle.command_perform.specs.Checking.{row_status, no_status, RefusesCheck}
use Rattle.command_perform.specs.Reporting.{report_status, RefusesReport, CanSummarize}
use Rattle.command_perform.specs.Gathering.{Fit, contents_of}
use Rattle.command_perform.specs.Commands.{wanted_of, CanAccept}
use Rattle.command_perform.proofs.Charges.{same_costs, no_table_fault}
use Rattle.command_perform.specs.Promises.{CanOnly, CanEnd}

row_refuses : (row : Row) → IsRefusal (row_status row)
row_refuses (Missing at) = tt
row_refuses (Sign claim) = tt
row_refuses (Wide at) = tt
row_refuses (Move at number) = tt
row_refuses Value = tt
row_refuses (Flow at) = tt
row_refuses (Unmet claim) = tt
row_refuses Greatest = tt
row_refuses Empty = tt

-- each cause is a refusal, but for want of memory
pub refuses_check : (costs : Table) (image report : List ℕ) (cause : Cause) (s : Status) → s ≡ no_status cause → StopsAt costs image report cause → (s ≡ status.Memory) ⊎ (IsRefusal s × RefusesCheck costs image report s)
refuses_check costs image report (NoImage fault) s e f = inr (subst IsRefusal (sym e) tt, record { cause = NoImage fault; fails = f; status_is = e })
refuses_check costs image report (NoReport fault) s e f = inr (subst IsRefusal (sym e) tt, record { cause = NoReport fault; fails = f; status_is = e })
refuses_check costs image report (BadClaim index) s e f = inr (subst IsRefusal (sym e) tt, record { cause = BadClaim index; fails = f; status_is = e })
refuses_check costs image report (NoCode at) s e f = inr (subst IsRefusal (sym e) tt, record { cause = NoCode at; fails = f; status_is = e })
refuses_check costs image report (FailedRow row) s e f = inr (subst IsRefusal (sym e) (row_refuses row), record { cause = FailedRow row; fails = f; status_is = e })
refuses_check costs image report (FailedShare at) s e f = inr (subst IsRefusal (sym e) tt, record { cause = FailedShare at; fails = f; status_is = e })
refuses_check costs image report Memory s e f = inl e

-- and each fault of a report, but for want of memory
pub refuses_report : (text : List ℕ) (fault : ReportFault) (s : Status) → s ≡ report_status fault → StopsReading text fault → (s ≡ status.Memory) ⊎ (IsRefusal s × RefusesReport text s)
refuses_report text (Line n) s e f = inr (subst IsRefusal (sym e) tt, record { fault = Line n; cause = f; status_is = e })
refuses_report text (Number n) s e f = inr (subst IsRefusal (sym e) tt, record { fault = Number n; cause = f; status_is = e })
refuses_report text NoMemory s e f = inl e

status_of : (made other : Outputs) → made ≡ other → made.status ≡ other.status
status_of made other e = ap (λ (o : Outputs). o.status) e

accept_only : (asked : CheckRequest) (contents : List (List ℕ)) → CanAccept contents → CanOnly (Check asked) contents status.Done
accept_only asked [] c = absurd c
accept_only asked (image ∷ []) c = absurd c
accept_only asked (image ∷ report ∷ tables) c = record {
  refuses = λ t r. absurd (⊎_elim (λ x. no_table_fault tables c.0 t c.1 x) (λ x. never_fails x.0 image report x.2.cause (subst (λ (k : Table). IsAccepted k image report) (same_costs tables c.0 x.0 c.1 x.1) c.2) x.2.fails) r);
  makes = λ made m. status_of made _ m.2.made_is;
}

pub accept_ends : (asked : CheckRequest) (files : Option Files) (old : StoreState) → old.files ≡ files → IsSomeAnd files (λ fs. Fit (wanted_of (Check asked)) fs × CanAccept (contents_of (wanted_of (Check asked)) fs)) → CanEnd (Some (Named (Check asked))) old status.Done
accept_ends asked None old e c = absurd c
accept_ends asked (Some fs) old e c = rw e (c.0, accept_only asked (contents_of (wanted_of (Check asked)) fs) c.1)

summary_only : (asked : ReportRequest) (text : List ℕ) → CanSummarize text → CanOnly (Report asked) (text ∷ []) status.Done
summary_only asked text c = record {
  refuses = λ t r. absurd (stands text c.report r.fault c.is_text r.cause);
  makes = λ made m. status_of made _ m.made_is;
}

pub summary_ends : (asked : ReportRequest) (files : Option Files) (old : StoreState) → old.files ≡ files → IsSomeAnd files (λ fs. CanSummarize (bytes_of fs asked.report)) → CanEnd (Some (Named (Report asked))) old status.Done
summary_ends asked None old e c = absurd c
summary_ends asked (Some fs) old e c = rw e ((c.short, tt), summary_only asked (bytes_of fs asked.report) c)
