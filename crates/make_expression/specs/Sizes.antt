-- How large typed expressions are, their conversions included.
use Rattle.std.specs.Prelude.{ℕ, ◌+◌}
use Rattle.types_tree.specs.Tree.{Place, Scalar, Element, Within, Expr, Number, Character, Read, Array, Paren, Call, Step, Signed, Cast, Convert, Operate, And, Or, Comma, Conditional, Assign, Update, Exprs, NoExpr, WithExpr}

abbrev mutual
  pub place_size : Place → ℕ
  place_size (Scalar object at) = 1
  place_size (Element array index at) = expr_size index + 1
  place_size (Within inner at) = place_size inner + 1

  pub expr_size : Expr → ℕ
  expr_size (Number constant at) = 1
  expr_size (Character value at) = 1
  expr_size (Read place) = place_size place + 1
  expr_size (Array object at) = 1
  expr_size (Paren inner at) = expr_size inner + 1
  expr_size (Call callee arguments at) = exprs_size arguments + 1
  expr_size (Step fix operator kind target at) = place_size target + 1
  expr_size (Signed operator kind operand at) = expr_size operand + 1
  expr_size (Cast specifiers to operand at) = expr_size operand + 1
  expr_size (Convert to operand) = expr_size operand + 1
  expr_size (Operate operator kind left right at) = expr_size left + expr_size right + 1
  expr_size (And left right at) = expr_size left + expr_size right + 1
  expr_size (Or left right at) = expr_size left + expr_size right + 1
  expr_size (Comma left right at) = expr_size left + expr_size right + 1
  expr_size (Conditional test first second at) = expr_size test + expr_size first + expr_size second + 1
  expr_size (Assign target value at) = place_size target + expr_size value + 1
  expr_size (Update operator kind to target value at) = place_size target + expr_size value + 1

  pub exprs_size : Exprs → ℕ
  exprs_size NoExpr = 0
  exprs_size (WithExpr first rest) = expr_size first + exprs_size rest
