use Rattle.loop_worths.proofs.CodeLemmas.{Weighs}
use Rattle.loop_worths.proofs.level.weigh.Given as goal

abbrev pub invariant-loop-k : goal.invariant-loop-k
invariant-loop-k l = Weighs l.low l.code.steps.now l.fn.weights l.weights l.gains.items l.code.loops.now l.k
