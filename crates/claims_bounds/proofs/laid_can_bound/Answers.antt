use Rattle.claims_bounds.proofs.BoundLemmas.{laid_can_bound}
use Rattle.claims_bounds.proofs.laid_can_bound.Goals as goal

pub returns : goal.returns
returns c = laid_can_bound c.args.costs.now
