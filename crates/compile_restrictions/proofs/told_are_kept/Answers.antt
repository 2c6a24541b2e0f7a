use Rattle.compile_restrictions.proofs.Kept.{told_kept}
use Rattle.compile_restrictions.proofs.told_are_kept.Goals as goal

pub returns : goal.returns
returns c = λ facts lines claims n counts limited many told each none. told_kept facts lines n counts many each claims limited told none
