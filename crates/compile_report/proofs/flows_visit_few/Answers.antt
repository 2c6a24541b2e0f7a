use Rattle.compile_report.proofs.Visits.{few}
use Rattle.compile_report.proofs.flows_visit_few.Goals as goal

pub returns : goal.returns
returns c = λ source names program facts m costs r is made reported. few source names program facts m costs r is made reported
