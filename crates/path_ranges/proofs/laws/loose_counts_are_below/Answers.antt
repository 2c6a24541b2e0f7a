use Rattle.rv_core.specs.Table.{table_of}
use Rattle.path_ranges.proofs.NarrowLemmas.{counts_below}
use Rattle.path_ranges.proofs.laws.loose_counts_are_below.Goals as goal

pub returns : goal.returns
returns c = counts_below (table_of c.args.costs.now) c.args.system.now
