use Rattle.std.proofs.Common.{◌≡◌, ◌++◌, None, Some, map, replicate, take}
use Rattle.high_eval.proofs.frame.frame.Given as goal

abbrev pub invariant-loop-word : goal.invariant-loop-word
invariant-loop-word l = l.variables.items ≡ map Some (take l.word-index l.values)

abbrev pub invariant-loop : goal.invariant-loop
invariant-loop l = l.variables.items ≡ map Some l.values ++ replicate l.counter None
