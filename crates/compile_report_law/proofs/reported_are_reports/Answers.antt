use Rattle.compile_report_law.proofs.Reports.{is_report}
use Rattle.compile_report_law.proofs.reported_are_reports.Goals as goal

pub returns : goal.returns
returns c = λ source names program facts m t r is made reported. is_report source names program facts m t r is made reported
