use Rattle.compile_capacity.proofs.Lowering.{lowered_kept}
use Rattle.compile_capacity.proofs.laws.lowered_turn.Goals as goal

pub returns : goal.returns
returns c = λ p q keeps all. lowered_kept p q keeps all
