use Rattle.std.proofs.Common.{◌≡◌, ◌+◌, sum_by, take}
use Rattle.inliner.proofs.inlining.operations_in.Given as goal

abbrev pub invariant-loop-size : goal.invariant-loop-size
invariant-loop-size l = l.count ≡ sum_by (λ s. s.whole.operations + 1) (take l.size-index l.sizes)
