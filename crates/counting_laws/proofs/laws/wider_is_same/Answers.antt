use Rattle.counting_laws.proofs.Whole.{same_meaning}
use Rattle.counting_laws.proofs.laws.wider_is_same.Goals as goal

pub returns : goal.returns
returns c = λ names program narrow wide input h w. same_meaning names program narrow wide h w input
