use Rattle.rv_core.specs.Table.{table_of}
use Rattle.path_ranges.proofs.LimitLemmas.{costs_bounded}
use Rattle.path_ranges.proofs.laws.costs_are_bounded.Goals as goal

pub returns : goal.returns
returns c = costs_bounded (table_of c.args.costs.now) c.args.system.now c.args.shapes.now c.args.spans.now
