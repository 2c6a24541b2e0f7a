use Rattle.compile_capacity.proofs.Carrying.{carried_kept}
use Rattle.compile_capacity.proofs.laws.carried_turn.Goals as goal

pub returns : goal.returns
returns c = λ old p c carries high all. carried_kept old p c carries high all
