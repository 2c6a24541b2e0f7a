use Rattle.path_sizes.proofs.SystemOpens.{all_open}
use Rattle.path_sizes.proofs.laws.functions_are_open.Goals as goal

pub returns : goal.returns
returns c = all_open c.args.system.now c.args.shapes.now c.args.spans.now
