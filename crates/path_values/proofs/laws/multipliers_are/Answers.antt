use Rattle.rv_core.specs.Table.{table_of}
use Rattle.path_values.proofs.ValueLemmas.{multipliers_of}
use Rattle.path_values.proofs.laws.multipliers_are.Goals as goal

pub returns : goal.returns
returns c = multipliers_of (table_of c.args.costs.now) c.args.system.now
