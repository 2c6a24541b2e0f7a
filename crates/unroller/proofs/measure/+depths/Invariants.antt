use Rattle.std.proofs.Common.{◌≡◌, ◌+◌, ◌*◌, drop, max}
use Rattle.high_ir.specs.Size.{depth_all, nodes, nodes_all}
use Rattle.high_ir.specs.View.{statement_of, statements_of}
use Rattle.unroller.proofs.measure.+depths.Given as goal

abbrev pub invariant-depth_all-loop-part : goal.invariant-depth_all-loop-part
invariant-depth_all-loop-part l = max l.deepest (depth_all (statements_of (drop l.part-index l.parts))) ≡ depth_all (statements_of l.parts)

abbrev pub decreases-depth : goal.decreases-depth
decreases-depth l = 2 * nodes (statement_of l.statement.now)

abbrev pub decreases-depth_all : goal.decreases-depth_all
decreases-depth_all l = 2 * nodes_all (statements_of l.parts.now) + 1
