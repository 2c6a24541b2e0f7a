use Rattle.path_sizes.proofs.RangeLemmas.{costs_ranged}
use Rattle.path_sizes.proofs.laws.costs_have_ranges.Goals as goal
use Rattle.rv_core.specs.Table.{table_of}

pub returns : goal.returns
returns c = costs_ranged (table_of c.args.costs.now) c.args.system.now c.args.shapes.now c.args.spans.now
