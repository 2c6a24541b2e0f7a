use Rattle.std.proofs.Common.{◌≡◌, ◌+◌, ◌*◌, map, take}
use Rattle.high_ir.specs.Size.{nodes, nodes_all}
use Rattle.high_ir.specs.View.{statement_of, statements_of}
use Rattle.high_again.proofs.statements.+statements.Given as goal

abbrev pub decreases-copied : goal.decreases-copied
decreases-copied l = 4 * nodes (statement_of l.statement.now)

abbrev pub decreases-copied_all : goal.decreases-copied_all
decreases-copied_all l = 4 * nodes_all (statements_of l.parts.now) + 1

abbrev pub decreases-copied_choice : goal.decreases-copied_choice
decreases-copied_choice l = 4 * (nodes (statement_of l.first.now) + nodes (statement_of l.other.now)) + 2

abbrev pub decreases-copied_ways : goal.decreases-copied_ways
decreases-copied_ways l = 4 * (nodes (statement_of l.first.now) + nodes (statement_of l.other.now)) + 1

abbrev pub invariant-copied_all-loop-part : goal.invariant-copied_all-loop-part
invariant-copied_all-loop-part l = map statement_of l.made.items ≡ map statement_of (take l.part-index l.parts)
