use Rattle.asm_prices.proofs.ProgramValueLemmas.{moves_cost_few}
use Rattle.asm_prices.proofs.laws.moves_cost_few.Goals as goal

pub returns : goal.returns
returns c = moves_cost_few c.args.costs.now
