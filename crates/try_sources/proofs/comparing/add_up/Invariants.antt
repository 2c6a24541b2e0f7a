use Rattle.std.proofs.Common.{◌≡◌, ◌+◌, take, sum_by}
use Rattle.high_ir.specs.Runs.{count_of}
use Rattle.try_sources.proofs.comparing.add_up.Given as goal

abbrev pub invariant-loop-mark : goal.invariant-loop-mark
invariant-loop-mark l = sum_by (λ m. count_of m l.trace) (take l.mark-index l.copies) + l.left ≡ l.count
