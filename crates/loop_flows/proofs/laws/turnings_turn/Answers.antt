use Rattle.loop_flows.proofs.TurnLemmas.{can_all_turn}
use Rattle.loop_flows.proofs.laws.turnings_turn.Goals as goal

pub returns : goal.returns
returns c low n ms weights ls steps loops = can_all_turn low n ms weights ls steps loops
