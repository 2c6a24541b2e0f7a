use Rattle.loop_prices.proofs.LoopLemmas.{bounds_loose_flows}
use Rattle.loop_prices.proofs.loose_flows_are_bounded.Goals as goal

pub returns : goal.returns
returns c = bounds_loose_flows c.args.system.now
