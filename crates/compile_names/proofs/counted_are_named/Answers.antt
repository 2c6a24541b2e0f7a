use Rattle.compile_names.proofs.Counted.{counted_named}
use Rattle.compile_names.proofs.counted_are_named.Goals as goal

pub returns : goal.returns
returns c = λ source names program facts is. counted_named source names program facts is
