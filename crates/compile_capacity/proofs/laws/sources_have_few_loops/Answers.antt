use Rattle.compile_capacity.proofs.Few.{source_loops_few}
use Rattle.compile_capacity.proofs.laws.sources_have_few_loops.Goals as goal

pub returns : goal.returns
returns c = λ names program facts checked. source_loops_few names program facts checked
