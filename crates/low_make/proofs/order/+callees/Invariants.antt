use Rattle.std.proofs.Common.{◌≡◌, ◌+◌, ◌*◌, ◌++◌, drop}
use Rattle.high_ir.specs.Size.{nodes, nodes_all}
use Rattle.high_ir.specs.Standing.{callees_of_all}
use Rattle.high_ir.specs.View.{statement_of, statements_of}
use Rattle.low_make.proofs.order.+callees.Given as goal

abbrev pub decreases-callees : goal.decreases-callees
decreases-callees l = 2 * nodes (statement_of l.statement.now)

abbrev pub decreases-all_callees : goal.decreases-all_callees
decreases-all_callees l = 2 * nodes_all (statements_of l.parts.now) + 1

abbrev pub invariant-all_callees-loop-part : goal.invariant-all_callees-loop-part
invariant-all_callees-loop-part l = l.found.items ++ callees_of_all (statements_of (drop l.part-index l.parts)) ≡ l.initial.found.items ++ callees_of_all (statements_of l.parts)
