-- What changes a scalar object by its name: an assignment, a step, or its own declaration (C11 6.2.4, 6.5.2.4, 6.5.3.1, 6.5.16).
-- Sizes of arrays and labels are constants, which change nothing.
use Rattle.std.specs.Prelude.{ℕ, ◌==◌, ◌||◌, Bool, false, List, [], ◌∷◌, Option, Some, None}
use Rattle.types_tree.specs.Tree.{Place, Scalar, Element, Within, Expr, Number, Character, Read, Array, Paren, Call, Step, Signed, Cast, Convert, Operate, And, Or, Comma, Conditional, Assign, Update, Exprs, NoExpr, WithExpr, Initial, Absent, Value, Listed, Object, Declared, Declaration, Objects, Prototype, ForStart, NoStart, StartValue, StartDeclaration, Statement, Block, Empty, Evaluate, Marker, If, IfElse, While, Do, For, Switch, Break, Continue, Return, Items, NoItem, WithDeclaration, WithStatement, WithRestriction, WithLabel}

abbrev mutual
  -- a place that is assigned or stepped
  pub target_changes : (object : ℕ) → Place → Bool
  target_changes object (Scalar own at) = own == object
  target_changes object (Element array index at) = expr_changes object index
  target_changes object (Within inner at) = target_changes object inner

  -- a place that is read
  pub place_changes : (object : ℕ) → Place → Bool
  place_changes object (Scalar own at) = false
  place_changes object (Element array index at) = expr_changes object index
  place_changes object (Within inner at) = place_changes object inner

  pub expr_changes : (object : ℕ) → Expr → Bool
  expr_changes object (Number constant at) = false
  expr_changes object (Character value at) = false
  expr_changes object (Read place) = place_changes object place
  expr_changes object (Array own at) = false
  expr_changes object (Paren inner at) = expr_changes object inner
  expr_changes object (Call callee arguments at) = exprs_changes object arguments
  expr_changes object (Step fix operator kind target at) = target_changes object target
  expr_changes object (Signed operator kind operand at) = expr_changes object operand
  expr_changes object (Cast specifiers to operand at) = expr_changes object operand
  expr_changes object (Convert to operand) = expr_changes object operand
  expr_changes object (Operate operator kind left right at) = expr_changes object left || expr_changes object right
  expr_changes object (And left right at) = expr_changes object left || expr_changes object right
  expr_changes object (Or left right at) = expr_changes object left || expr_changes object right
  expr_changes object (Comma left right at) = expr_changes object left || expr_changes object right
  expr_changes object (Conditional test first second at) = expr_changes object test || (expr_changes object first || expr_changes object second)
  expr_changes object (Assign target value at) = target_changes object target || expr_changes object value
  expr_changes object (Update operator kind to target value at) = target_changes object target || expr_changes object value

  pub exprs_changes : (object : ℕ) → Exprs → Bool
  exprs_changes object NoExpr = false
  exprs_changes object (WithExpr e rest) = expr_changes object e || exprs_changes object rest

abbrev pub option_changes : (object : ℕ) → Option Expr → Bool
option_changes object None = false
option_changes object (Some e) = expr_changes object e

abbrev pub initial_changes : (object : ℕ) → Initial → Bool
initial_changes object Absent = false
initial_changes object (Value e) = expr_changes object e
initial_changes object (Listed es comma filling) = exprs_changes object es

-- an object that is declared holds nothing any more
abbrev pub object_changes : (object : ℕ) → Object → Bool
object_changes object (Declared own shape initial at) = (own == object) || initial_changes object initial

abbrev pub objects_changes : (object : ℕ) → List Object → Bool
objects_changes object [] = false
objects_changes object (first ∷ rest) = object_changes object first || objects_changes object rest

abbrev pub declaration_changes : (object : ℕ) → Declaration → Bool
declaration_changes object (Objects specifiers objects at) = objects_changes object objects
declaration_changes object (Prototype specifiers name params at) = false

abbrev pub start_changes : (object : ℕ) → ForStart → Bool
start_changes object NoStart = false
start_changes object (StartValue e) = expr_changes object e
start_changes object (StartDeclaration declaration) = declaration_changes object declaration

abbrev mutual
  pub statement_changes : (object : ℕ) → Statement → Bool
  statement_changes object (Block items at) = items_changes object items
  statement_changes object (Empty at) = false
  statement_changes object (Evaluate e at) = expr_changes object e
  statement_changes object (Marker number pragma) = false
  statement_changes object (If test first at) = expr_changes object test || statement_changes object first
  statement_changes object (IfElse test first second at) = expr_changes object test || (statement_changes object first || statement_changes object second)
  statement_changes object (While number bound test body at) = expr_changes object test || statement_changes object body
  statement_changes object (Do number bound body test at) = statement_changes object body || expr_changes object test
  statement_changes object (For number bound start test step body at) =
      start_changes object start || (option_changes object test || (option_changes object step || statement_changes object body))
  statement_changes object (Switch test items at) = expr_changes object test || items_changes object items
  statement_changes object (Break at) = false
  statement_changes object (Continue at) = false
  statement_changes object (Return value at) = option_changes object value

  pub items_changes : (object : ℕ) → Items → Bool
  items_changes object NoItem = false
  items_changes object (WithDeclaration declaration rest) = declaration_changes object declaration || items_changes object rest
  items_changes object (WithStatement statement rest) = statement_changes object statement || items_changes object rest
  items_changes object (WithRestriction pragma rest) = items_changes object rest
  items_changes object (WithLabel label rest) = items_changes object rest
