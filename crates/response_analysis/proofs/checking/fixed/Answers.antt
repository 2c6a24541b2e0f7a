use Rattle.response_analysis.proofs.Equations.{positive_periods}
use Rattle.response_analysis.proofs.InTime.{end_in_time}
use Rattle.response_analysis.proofs.checking.fixed.Goals as goal

pub returns-clause-ends : goal.returns-clause-ends
returns-clause-ends c = λ t. end_in_time c.args.tasks.now c.args.responses.now (positive_periods c.args.tasks.now c.requires) (c.are_responses.ensures.0 t)
