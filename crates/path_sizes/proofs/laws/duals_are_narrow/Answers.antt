use Rattle.path_sizes.proofs.FineSizes.{duals_narrow}
use Rattle.path_sizes.proofs.laws.duals_are_narrow.Goals as goal

pub returns : goal.returns
returns c = duals_narrow c.args.system.now c.args.shapes.now c.args.spans.now
