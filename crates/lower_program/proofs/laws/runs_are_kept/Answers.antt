use Rattle.lower_program.proofs.Programs.{kept}
use Rattle.lower_program.proofs.laws.runs_are_kept.Goals as goal

pub returns : goal.returns
returns c = λ p high whole input bytes. kept p high whole input bytes
