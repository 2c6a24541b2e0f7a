use Rattle.compile_capacity.proofs.Lowering.{placed_kept}
use Rattle.compile_capacity.proofs.laws.placed_turn.Goals as goal

pub returns : goal.returns
returns c = λ a q all. placed_kept a q all
