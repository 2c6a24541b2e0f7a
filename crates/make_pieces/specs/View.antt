-- The pieces of the code, without where they lie in memory.
use Rattle.std.specs.Prelude.{ℕ, ◌+◌, Bool, not, ◌||◌}
use Rattle.high_ir.specs.Tree.{Expr, Constant, Variable, Binary, Statements}
use Rattle.high_ir.specs.View.{expr_of, statements_of}
use Rattle.plan_definition.specs.Homes as homes
use Rattle.plan_definition.specs.Homes.{InFrame, InMemory}
use Rattle.plan_definition.specs.Values as values
use Rattle.plan_definition.specs.Values.{is_changed, is_leaf, is_variable}
use Rattle.make_pieces.specs.declared.code.Code.{Code}
use Rattle.make_pieces.specs.declared.expr.Leaf.{Leaf}
use Rattle.make_pieces.specs.declared.expr.Leaf.TheVariants as leaf
use Rattle.make_pieces.specs.declared.homes.Aimed.{Aimed}
use Rattle.make_pieces.specs.declared.homes.Target.{Target}
use Rattle.make_pieces.specs.declared.homes.Target.TheVariants as target
use Rattle.make_pieces.specs.declared.operators.Order.{Order}
use Rattle.make_pieces.specs.declared.operators.Order.TheVariants.{Straight, Swapped}
use Rattle.make_pieces.specs.declared.valued.Steady.{Steady}
use Rattle.make_pieces.specs.declared.valued.Valued.{Valued}

abbrev pub leaf_expr : Leaf → Expr
leaf_expr (leaf.Constant word) = Constant word
leaf_expr (leaf.Variable x) = Variable x

-- an operator between two values
abbrev pub ordered : Order → (left right : Expr) → Expr
ordered (Straight operator) x y = Binary operator x y
ordered (Swapped operator) x y = Binary operator y x

abbrev pub code_of : Code → Statements
code_of code = statements_of code.statements.items

abbrev pub target_of : Target → homes.Target
target_of (target.InFrame x) = InFrame x
target_of (target.InMemory array index) = InMemory array (expr_of index)

abbrev pub valued_of : Valued → values.Valued
valued_of v = record { code = code_of v.code; value = expr_of v.value }

abbrev pub steady_of : Steady → values.Valued
steady_of v = record { code = code_of v.code; value = leaf_expr v.value }

abbrev pub aimed_of : Aimed → values.Aimed
aimed_of a = record { code = code_of a.code; target = target_of a.target }

-- whether a value is no leaf, or one that code, and then an assignment to the variable behind k, may change
abbrev pub is_loose : ℕ → Expr → Statements → Bool
is_loose k value after = not (is_leaf value) || (is_changed value after || is_variable (k + 1) value)
