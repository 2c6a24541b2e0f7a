use Rattle.std.proofs.Common.{◌≡◌, ◌+◌, ◌*◌, drop}
use Rattle.high_ir.specs.Size.{nodes, nodes_all}
use Rattle.high_ir.specs.View.{statement_of, statements_of}
use Rattle.inliner.specs.View.{functions_of}
use Rattle.inliner.specs.Walking.{behind_all, opened_all}
use Rattle.inliner.proofs.walking.+statements.Given as goal

abbrev pub decreases-opened : goal.decreases-opened
decreases-opened l = 4 * nodes (statement_of l.statement.now)

abbrev pub decreases-with_other : goal.decreases-with_other
decreases-with_other l = 4 * nodes (statement_of l.other.now) + 1

abbrev pub decreases-opened_all : goal.decreases-opened_all
decreases-opened_all l = 4 * nodes_all (statements_of l.parts.now) + 1

abbrev pub invariant-opened_all-loop-part : goal.invariant-opened_all-loop-part
invariant-opened_all-loop-part l =
    behind_all (statements_of l.made.items) (opened_all l.scope.limit (functions_of l.scope.functions.now) l.around (statements_of (drop l.part-index l.parts)) l.used)
    ≡ opened_all l.scope.limit (functions_of l.scope.functions.now) l.around (statements_of l.parts) l.initial.used
