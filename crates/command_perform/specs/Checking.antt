-- What `check` makes of an image and a report: the line of a bound that holds, or what fails first.
use Rattle.std.specs.Prelude.{◌≡◌, ℕ, List, []}
use Rattle.wcc_base.specs.declared.status.Status.{Status}
use Rattle.wcc_base.specs.declared.status.Status.TheVariants as status
use Rattle.rv_core.specs.Table.{Table}
use Rattle.dual_check.specs.declared.row.Row.{Row}
use Rattle.dual_check.specs.declared.row.Row.TheVariants.{Missing, Sign, Wide, Move, Value, Flow, Unmet, Greatest, Empty}
use Rattle.report_check.specs.declared.verdict.Checked.{Checked}
use Rattle.report_check.specs.declared.verdict.Cause.{Cause}
use Rattle.report_check.specs.declared.verdict.Cause.TheVariants.{NoImage, NoReport, BadClaim, NoCode, FailedRow, FailedShare, Memory}
use Rattle.report_check.specs.Checks.{IsChecked, Fails}
use Rattle.command_perform.specs.Lines.{yes_line}
use Rattle.command_perform.specs.Outputs.{Outputs}
use Rattle.command_perform.specs.Running.{fault_number, fault_index}
use Rattle.command_perform.specs.Reporting.{line_fault, fault_line}

-- a row of the certificate, by its code, with the number of its move, and its address or the number of its claim
abbrev pub row_status : Row → Status
row_status (Missing at) = status.No 5 0 at
row_status (Sign claim) = status.No 6 0 claim
row_status (Wide at) = status.No 7 0 at
row_status (Move at number) = status.No 8 number at
row_status Value = status.No 9 0 0
row_status (Flow at) = status.No 10 0 at
row_status (Unmet claim) = status.No 11 0 claim
row_status Greatest = status.No 12 0 0
row_status Empty = status.No 13 0 0

-- what fails first, by its code
abbrev pub no_status : Cause → Status
no_status (NoImage fault) = status.No 1 (fault_number fault) (fault_index fault)
no_status (NoReport fault) = status.No 2 (line_fault fault) (fault_line fault)
no_status (BadClaim index) = status.No 3 0 index
no_status (NoCode at) = status.No 4 0 at
no_status (FailedRow row) = row_status row
no_status (FailedShare at) = status.No 14 0 at
no_status Memory = status.Memory

-- with these costs this fails first
pub record RefusesCheck (costs : Table) (image report : List ℕ) (s : Status) : Type 0 where
  pub cause : Cause
  pub fails : Fails costs image report cause
  pub status_is : s ≡ no_status cause

-- no file, and the line of the bound
abbrev pub yes_outputs : Checked → Outputs
yes_outputs c = record { status = status.Done; files = []; lines = yes_line c.cycles c.greatest }

-- with these costs the report holds, and its cycles bound each finished run that keeps its claims, on any input
pub record MakesYes (costs : Table) (image report : List ℕ) (made : Outputs) : Type 0 where
  pub checked : Checked
  pub is_checked : IsChecked costs image report checked
  pub made_is : made ≡ yes_outputs checked
