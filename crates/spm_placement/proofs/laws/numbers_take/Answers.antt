use Rattle.spm_placement.proofs.Taking.{taken}
use Rattle.spm_placement.proofs.laws.numbers_take.Goals as goal

pub returns : goal.returns
returns c = λ items s apart part. taken items s apart part
