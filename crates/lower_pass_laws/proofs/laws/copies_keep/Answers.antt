use Rattle.lower_pass_laws.proofs.CopiedKeeping.{keeps}
use Rattle.lower_pass_laws.proofs.laws.copies_keep.Goals as goal

pub returns : goal.returns
returns c = keeps
