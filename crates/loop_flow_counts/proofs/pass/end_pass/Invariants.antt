use Rattle.std.proofs.Common.{◌++◌, drop}
use Rattle.loop_walks.specs.Levels.{level_of}
use Rattle.loop_flows.specs.Passes.{spread}
use Rattle.loop_flows.specs.Turns.{is_tight}
use Rattle.loop_flow_counts.specs.Wraps.{SameCounts}
use Rattle.loop_flow_counts.proofs.pass.end_pass.Given as goal

abbrev pub invariant-loop-k : goal.invariant-loop-k
invariant-loop-k l = SameCounts (l.counts.items ++ spread (is_tight (level_of l.worths l.weights)) l.amounts (drop l.k l.steps)) (spread (is_tight (level_of l.worths l.weights)) l.fn.amounts l.steps)
