use Rattle.std.proofs.Common.{◌≡◌, ◌+◌, ◌*◌, take, sum_by}
use Rattle.high_ir.specs.Size.{operations}
use Rattle.high_ir.specs.View.{statement_of}
use Rattle.try_forms.proofs.operations.+statements.Given as goal

abbrev pub invariant-of_statements-loop-part : goal.invariant-of_statements-loop-part
invariant-of_statements-loop-part l = l.sum ≡ sum_by (λ s. operations (statement_of s)) (take l.part-index l.parts)

abbrev pub decreases-of_statement : goal.decreases-of_statement
decreases-of_statement l = 2 * operations (statement_of l.statement.now)

abbrev pub decreases-of_statements : goal.decreases-of_statements
decreases-of_statements l = 2 * sum_by (λ s. operations (statement_of s)) l.parts.now + 1
