use Rattle.code_flow.proofs.Few.{has_few}
use Rattle.code_flow.proofs.laws.certificates_are_few.Goals as goal

pub returns : goal.returns
returns c = has_few
