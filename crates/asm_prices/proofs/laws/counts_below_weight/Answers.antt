use Rattle.asm_prices.proofs.CountLemmas.{counts_below_weight}
use Rattle.asm_prices.proofs.laws.counts_below_weight.Goals as goal

pub returns : goal.returns
returns c = counts_below_weight
