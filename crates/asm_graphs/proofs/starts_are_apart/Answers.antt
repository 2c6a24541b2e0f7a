use Rattle.asm_graphs.proofs.RangeLemmas.{starts_apart}
use Rattle.asm_graphs.proofs.starts_are_apart.Goals as goal

pub returns : goal.returns
returns c = starts_apart
