use Rattle.asm_prices.proofs.BoundLemmas.{loose_flows_bounded}
use Rattle.asm_prices.proofs.laws.loose_flows_are_bounded.Goals as goal

pub returns : goal.returns
returns c = loose_flows_bounded
