use Rattle.compile_capacity.proofs.Whole.{all_kept}
use Rattle.compile_capacity.proofs.laws.all_turn.Goals as goal

pub returns : goal.returns
returns c = λ source names facts p made q are carries is_high keeps. all_kept source names facts p made q are carries is_high keeps
