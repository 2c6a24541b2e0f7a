use Rattle.std.proofs.Common.{◌+◌, ◌*◌}
use Rattle.high_ir.specs.Size.{expr_nodes}
use Rattle.high_ir.specs.View.{expr_of}
use Rattle.lower_expression.proofs.sharing.+shares.Given as goal

abbrev pub decreases-shares_in : goal.decreases-shares_in
decreases-shares_in l = 2 * expr_nodes (expr_of l.expr.now)

abbrev pub decreases-shares_at : goal.decreases-shares_at
decreases-shares_at l = 2 * expr_nodes (expr_of l.index.now) + 1
