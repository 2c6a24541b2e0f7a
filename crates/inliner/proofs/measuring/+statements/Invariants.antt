use Rattle.std.proofs.Common.{◌≡◌, ◌+◌, ◌*◌, drop}
use Rattle.high_ir.specs.Size.{nodes, nodes_all}
use Rattle.high_ir.specs.View.{statement_of, statements_of}
use Rattle.inliner.specs.Measures.{beside, measured_all}
use Rattle.inliner.proofs.measuring.+statements.Given as goal

abbrev pub decreases-measured : goal.decreases-measured
decreases-measured l = 2 * nodes (statement_of l.statement.now)

abbrev pub decreases-measured_all : goal.decreases-measured_all
decreases-measured_all l = 2 * nodes_all (statements_of l.parts.now) + 1

abbrev pub invariant-measured_all-loop-part : goal.invariant-measured_all-loop-part
invariant-measured_all-loop-part l = beside l.all (measured_all l.returns (statements_of (drop l.part-index l.parts))) ≡ measured_all l.returns (statements_of l.parts)
