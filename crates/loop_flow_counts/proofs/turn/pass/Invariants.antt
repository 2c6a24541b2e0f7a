use Rattle.std.proofs.Common.{◌≤◌, ◌++◌, take, drop}
use Rattle.loop_flows.specs.Passes.{spread}
use Rattle.loop_flows.specs.Flows.{together}
use Rattle.loop_flows.specs.Turns.{is_turn}
use Rattle.loop_flow_counts.specs.Wraps.{SameCounts}
use Rattle.loop_flow_counts.proofs.turn.pass.Given as goal

abbrev pub invariant-loop-k : goal.invariant-loop-k
invariant-loop-k l =
    let chosen = is_turn l.weighed.low l.weighed.weights.now l.ring l.ways in
    (l.k ≤ l.ring.rest) × SameCounts (take l.k l.counts ++ together (drop l.k l.counts) (spread chosen l.amounts (drop l.k l.weighed.steps.now))) (together l.fn.counts (spread chosen l.fn.amounts l.weighed.steps.now))
