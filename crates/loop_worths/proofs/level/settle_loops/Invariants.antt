use Rattle.std.proofs.Common.{◌≡◌, length}
use Rattle.loop_walks.specs.Levels.{level_of, levels, level_pairs}
use Rattle.loop_worths.proofs.CodeLemmas.{Settles}
use Rattle.loop_worths.proofs.level.settle_loops.Given as goal

abbrev pub invariant-loop-i : goal.invariant-loop-i
invariant-loop-i l =
    Settles l.low l.code.steps.now (level_of l.worths l.weights) l.gains l.pairs.items l.code.loops.now l.i (levels l.low l.code.steps.now (level_of l.fn.worths l.fn.weights) l.code.loops.now l.gains) (level_pairs l.low l.code.steps.now (level_of l.fn.worths l.fn.weights) l.code.loops.now l.gains)
    × (length l.worths ≡ length l.fn.worths) × (length l.weights ≡ length l.fn.weights)
