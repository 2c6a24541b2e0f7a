use Rattle.lower_budget.proofs.Programs.{room_few}
use Rattle.lower_budget.proofs.laws.room_is_bounded.Goals as goal

pub returns : goal.returns
returns c = λ p high. room_few p high
