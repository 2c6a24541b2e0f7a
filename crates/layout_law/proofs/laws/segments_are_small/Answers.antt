use Rattle.layout_law.proofs.Taken.{all_small}
use Rattle.layout_law.proofs.laws.segments_are_small.Goals as goal

pub returns : goal.returns
returns c = λ pl p is words moves. all_small pl p is words moves
