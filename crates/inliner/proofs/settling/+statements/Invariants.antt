use Rattle.std.proofs.Common.{◌≡◌, ◌+◌, ◌*◌, drop}
use Rattle.high_ir.specs.Size.{nodes, nodes_all}
use Rattle.high_ir.specs.View.{statement_of, statements_of}
use Rattle.inliner.specs.Sites.{any_fits_all}
use Rattle.inliner.specs.View.{functions_of}
use Rattle.inliner.proofs.settling.+statements.Given as goal

abbrev pub decreases-any_fits : goal.decreases-any_fits
decreases-any_fits l = 2 * nodes (statement_of l.statement.now)

abbrev pub decreases-any_fits_all : goal.decreases-any_fits_all
decreases-any_fits_all l = 2 * nodes_all (statements_of l.parts.now) + 1

abbrev pub invariant-any_fits_all-loop-part : goal.invariant-any_fits_all-loop-part
invariant-any_fits_all-loop-part l =
    any_fits_all l.scope.limit (functions_of l.scope.functions.now) l.used l.around (statements_of (drop l.part-index l.parts)) ≡ any_fits_all l.scope.limit (functions_of l.scope.functions.now) l.used l.around (statements_of l.parts)
