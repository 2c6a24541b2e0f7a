use Rattle.std.proofs.Common.{◌≡◌, ◌+◌, ◌-◌, length}
use Rattle.loop_walks.specs.Levels.{level_of}
use Rattle.path_walks.specs.Prices.{prices_of}
use Rattle.path_flow_counts.specs.Sums.{flowing}
use Rattle.path_flow_counts.proofs.FlowLemmas.{Going}
use Rattle.path_flow_counts.proofs.system.add_functions.Given as goal

abbrev pub invariant-loop-k : goal.invariant-loop-k
invariant-loop-k l =
    let s = l.priced.system.now in
    let n = length s.moves in
    Going s l.priced.shapes.now l.spans (prices_of s l.priced.prices.now l.priced.low) (level_of l.worths l.weights) (flowing l.tally.starts.now l.tally.amounts.now) (length l.spans - l.k)
    × (length l.worths ≡ n + 1) × (length l.weights ≡ n + 1) × (length l.tally.room.now ≡ n + 1) × (length l.tally.starts.now ≡ n + 1) × (length l.tally.amounts.now ≡ n)
