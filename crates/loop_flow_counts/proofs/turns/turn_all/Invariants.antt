use Rattle.std.proofs.Common.{◌≡◌, ◌-◌, length}
use Rattle.loop_flow_counts.specs.Made.{bared}
use Rattle.loop_flow_counts.proofs.TurnLemmas.{Turns}
use Rattle.loop_flow_counts.proofs.turns.turn_all.Given as goal

abbrev pub invariant-loop-i : goal.invariant-loop-i
invariant-loop-i l =
    Turns l.low (length l.fn.weights - 1) l.code.steps.now (bared l.fn.weights l.code.loops.now) l.code.loops.now l.fn.counts l.weights l.counts l.backs.items l.i
    × (length l.weights ≡ length l.fn.weights) × (length l.amounts ≡ length l.fn.weights)
