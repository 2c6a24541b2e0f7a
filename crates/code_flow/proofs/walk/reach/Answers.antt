use Rattle.std.proofs.Common.{refl}
use Rattle.code_flow_system.specs.Moves.{code_by}
use Rattle.code_flow.proofs.WalkLemmas.{reach-sorted}
use Rattle.code_flow.proofs.walk.reach.Goals as goal

pub returns-clause-reach : goal.returns-clause-reach
returns-clause-reach c = reach-sorted (code_by c.args.image.now c.args.exits.now) c.args.image.now.entry c.in_ok-walk.walk _ refl c.sort_unstable.ensures.permutation c.in_ok-walk.ensures
