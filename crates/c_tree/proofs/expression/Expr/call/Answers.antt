use Rattle.c_tree.proofs.Rows.{call_view}
use Rattle.c_tree.proofs.expression.Expr.call.Goals as goal

pub returns : goal.returns
returns c = call_view c.args.function c.args.arguments c.args.at
