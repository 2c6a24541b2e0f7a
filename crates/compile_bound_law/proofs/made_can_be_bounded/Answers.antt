use Rattle.compile_bound_law.proofs.Bounds.{made_bounded}
use Rattle.compile_bound_law.proofs.made_can_be_bounded.Goals as goal

pub returns : goal.returns
returns c = λ source names program facts m lines claims costs s is made told h. made_bounded source names program facts m is made lines claims told costs s h
