use Rattle.std.proofs.Common.{◌≡◌, ◌+◌, ◌*◌, drop}
use Rattle.high_ir.specs.Size.{nodes, nodes_all}
use Rattle.high_ir.specs.View.{statement_of, statements_of}
use Rattle.high_unrolled.specs.Factor.{has_loop_any}
use Rattle.unroller.proofs.measure.+loops.Given as goal

abbrev pub invariant-has_loop_any-loop-part : goal.invariant-has_loop_any-loop-part
invariant-has_loop_any-loop-part l = has_loop_any (statements_of (drop l.part-index l.parts)) ≡ has_loop_any (statements_of l.parts)

abbrev pub decreases-has_loop : goal.decreases-has_loop
decreases-has_loop l = 2 * nodes (statement_of l.statement.now)

abbrev pub decreases-has_loop_any : goal.decreases-has_loop_any
decreases-has_loop_any l = 2 * nodes_all (statements_of l.parts.now) + 1
