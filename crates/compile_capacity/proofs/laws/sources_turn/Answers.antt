use Rattle.compile_capacity.proofs.Whole.{source_kept}
use Rattle.compile_capacity.proofs.laws.sources_turn.Goals as goal

pub returns : goal.returns
returns c = λ source names facts are. source_kept source names facts are
