use Rattle.types_tree.proofs.Rows.{call_view}
use Rattle.types_tree.proofs.expression.Expr.call.Goals as goal

pub returns : goal.returns
returns c = call_view _ _ _
