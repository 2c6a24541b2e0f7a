use Rattle.claims_bounds.proofs.FlowLemmas.{loops_are_bounded}
use Rattle.claims_bounds.proofs.loops_are_bounded.Goals as goal

pub returns : goal.returns
returns c = loops_are_bounded
