use Rattle.path_ranges.proofs.NarrowLemmas.{narrow_limits}
use Rattle.path_ranges.proofs.laws.limits_are_narrow.Goals as goal

pub returns : goal.returns
returns c = narrow_limits c.args.system.now.claims
