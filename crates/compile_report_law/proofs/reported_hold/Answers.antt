use Rattle.compile_report_law.proofs.Holding.{report_holds}
use Rattle.compile_report_law.proofs.reported_hold.Goals as goal

pub returns : goal.returns
returns c = λ source names program facts m t r is made reported typed loads same. report_holds source names program facts m t r is made reported typed loads same
