use Rattle.asm_prices.proofs.ReachLemmas.{counts_below_reach}
use Rattle.asm_prices.proofs.laws.counts_below_reach.Goals as goal

pub returns : goal.returns
returns c = counts_below_reach
