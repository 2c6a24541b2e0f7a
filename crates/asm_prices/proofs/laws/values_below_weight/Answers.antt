use Rattle.rv_core.specs.Table.{table_of}
use Rattle.asm_prices.proofs.ProgramValueLemmas.{moves_cost_few, values_below_weight}
use Rattle.asm_prices.proofs.laws.values_below_weight.Goals as goal

pub returns : goal.returns
returns c = values_below_weight (table_of c.args.costs.now) (moves_cost_few c.args.costs.now)
