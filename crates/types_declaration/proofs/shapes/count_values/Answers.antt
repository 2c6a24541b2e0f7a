use Rattle.std.proofs.Common.{arith}
use Rattle.c_tree.specs.Tree.{NoExpr}
use Rattle.types_expression.proofs.Arguments.{count-exprs}
use Rattle.types_declaration.proofs.shapes.count_values.Goals as goal

pub returns : goal.returns
returns c = let h = count-exprs NoExpr c.args.values.now in omega (arith, h)
