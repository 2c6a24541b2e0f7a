use Rattle.std.proofs.Common.{◌≡◌, ◌+◌, ◌*◌, take, sum_by}
use Rattle.high_ir.specs.View.{statement_of}
use Rattle.high_unrolled.specs.Programs.{busy}
use Rattle.unroller.proofs.measure.+statements.Given as goal

abbrev pub invariant-busy_all-loop-part : goal.invariant-busy_all-loop-part
invariant-busy_all-loop-part l = l.sum ≡ sum_by (λ s. busy (statement_of s)) (take l.part-index l.parts)

abbrev pub decreases-busy : goal.decreases-busy
decreases-busy l = 2 * busy (statement_of l.statement.now)

abbrev pub decreases-busy_all : goal.decreases-busy_all
decreases-busy_all l = 2 * sum_by (λ s. busy (statement_of s)) l.parts.now + 1
