use Rattle.std.proofs.Common.{◌≡◌, ◌+◌, ◌*◌, take, sum_by}
use Rattle.high_ir.specs.Size.{nodes}
use Rattle.high_ir.specs.View.{statement_of}
use Rattle.high_ir.proofs.measure.+statements.Given as goal

abbrev pub invariant-statements_size-loop-part : goal.invariant-statements_size-loop-part
invariant-statements_size-loop-part l = l.sum ≡ sum_by (λ s. nodes (statement_of s)) (take l.part-index l.parts)

abbrev pub decreases-statement_size : goal.decreases-statement_size
decreases-statement_size l = 2 * nodes (statement_of l.statement.now)

abbrev pub decreases-statements_size : goal.decreases-statements_size
decreases-statements_size l = 2 * sum_by (λ s. nodes (statement_of s)) l.parts.now + 1
