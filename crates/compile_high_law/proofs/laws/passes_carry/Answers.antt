use Rattle.compile_high_law.proofs.Carried.{pass_carried}
use Rattle.compile_high_law.proofs.laws.passes_carry.Goals as goal

pub returns : goal.returns
returns c = λ names program facts passes old new whole step made before is_high lawful continues. pass_carried names program facts passes old new whole step made before is_high lawful continues
