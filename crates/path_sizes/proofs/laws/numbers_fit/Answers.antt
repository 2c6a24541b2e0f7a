use Rattle.path_sizes.proofs.SystemSizes.{all_fit}
use Rattle.path_sizes.proofs.laws.numbers_fit.Goals as goal

pub returns : goal.returns
returns c = all_fit c.args.system.now c.args.shapes.now c.args.spans.now
