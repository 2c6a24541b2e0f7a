-- What `report` makes of a report: its summary.
use Rattle.std.specs.Prelude.{◌≡◌, ℕ, List, [], length, ◌≤◌}
use Rattle.wcc_base.specs.Limits.{greatest_of}
use Rattle.wcc_base.specs.declared.limits.Bound.TheVariants as bound
use Rattle.wcc_base.specs.declared.status.Status.{Status}
use Rattle.wcc_base.specs.declared.status.Status.TheVariants as status
use Rattle.report_reading.specs.Faults.{IsReportFault}
use Rattle.report_reading.specs.declared.fault.ReportFault.{ReportFault}
use Rattle.report_reading.specs.declared.fault.ReportFault.TheVariants.{Line, Number, Memory}
use Rattle.report_text.specs.Reports.{Report}
use Rattle.report_check.specs.Checks.{IsTextOf}
use Rattle.report_check.specs.Summaries.{IsSummary}
use Rattle.command_perform.specs.Outputs.{Outputs}

-- the number of a fault of a report, and that of its line
abbrev pub line_fault : ReportFault → ℕ
line_fault (Line number) = 1
line_fault (Number line) = 2
line_fault Memory = 3

abbrev pub fault_line : ReportFault → ℕ
fault_line (Line number) = number
fault_line (Number line) = line
fault_line Memory = 0

-- the status of a text that is no report
abbrev pub report_status : ReportFault → Status
report_status (Line number) = status.Refused 11 1 number
report_status (Number line) = status.Refused 11 2 line
report_status Memory = status.Memory

-- the text is that of no report, and this line is the first that fails
pub record RefusesReport (text : List ℕ) (s : Status) : Type 0 where
  pub fault : ReportFault
  pub cause : IsReportFault text fault
  pub status_is : s ≡ report_status fault

-- no file, and the lines of the summary
abbrev pub summary_outputs : List ℕ → Outputs
summary_outputs lines = record { status = status.Done; files = []; lines = lines }

pub record MakesSummary (text : List ℕ) (made : Outputs) : Type 0 where
  pub lines : List ℕ
  pub is_summary : IsSummary text lines
  pub made_is : made ≡ summary_outputs lines

-- the file is within its limit, and holds the text of a report
pub record CanSummarize (text : List ℕ) : Type 0 where
  pub short : length text ≤ greatest_of bound.Report
  pub report : Report
  pub is_text : IsTextOf text report
