use Rattle.rv_core.proofs.Numbers.{number_at-with_number, number_at-beside, length-with_number}
use Rattle.rv_core.proofs.laws.number_behind_write.Goals as goal

pub returns-clause-same : goal.returns-clause-same
returns-clause-same c = number_at-with_number

pub returns-clause-beside : goal.returns-clause-beside
returns-clause-beside c = number_at-beside

pub returns-clause-size : goal.returns-clause-size
returns-clause-size c = length-with_number
