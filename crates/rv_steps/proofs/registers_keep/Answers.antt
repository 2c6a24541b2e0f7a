use Rattle.rv_steps.proofs.StepLemmas.{register-written, register-other, length-written}
use Rattle.rv_steps.proofs.registers_keep.Goals as goal

pub returns-clause-written : goal.returns-clause-written
returns-clause-written c = register-written

pub returns-clause-others : goal.returns-clause-others
returns-clause-others c = register-other

pub returns-clause-count : goal.returns-clause-count
returns-clause-count c = length-written
