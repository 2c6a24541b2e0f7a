-- The typed trees of the code, without where they lie in memory.
use Rattle.std.specs.Prelude.{ℕ, List, [], ◌∷◌, map}
use Rattle.c_tree.specs.Named.{map_option}
use Rattle.c_tree.specs.View.{id_of}
use Rattle.types_tree.specs.declared.expression.Place as places
use Rattle.types_tree.specs.declared.expression.Expr as exprs
use Rattle.types_tree.specs.declared.declaration.Shape as shapes
use Rattle.types_tree.specs.declared.declaration.Shape.TheVariants as shape
use Rattle.types_tree.specs.declared.declaration.Initial as initials
use Rattle.types_tree.specs.declared.declaration.Initial.TheVariants as initial
use Rattle.types_tree.specs.declared.declaration.Object as objects
use Rattle.types_tree.specs.declared.declaration.Param as params
use Rattle.types_tree.specs.declared.declaration.Declaration as declarations
use Rattle.types_tree.specs.declared.declaration.Declaration.TheVariants as declaration
use Rattle.types_tree.specs.declared.statement.LoopId.{LoopId}
use Rattle.types_tree.specs.declared.statement.Label as labels
use Rattle.types_tree.specs.declared.statement.Label.TheVariants as label
use Rattle.types_tree.specs.declared.statement.ForStart as starts
use Rattle.types_tree.specs.declared.statement.ForStart.TheVariants as start
use Rattle.types_tree.specs.declared.statement.Item as items
use Rattle.types_tree.specs.declared.statement.Statement as statements
use Rattle.types_tree.specs.declared.external.Function as functions
use Rattle.types_tree.specs.declared.external.External as externals
use Rattle.types_tree.specs.declared.external.External.TheVariants as external
use Rattle.types_tree.specs.declared.program.Program as programs
use Rattle.types_tree.specs.Tree.{Place, Scalar, Element, Within, Expr, Number, Character, Read, Array, Paren, Call, Step, Signed, Cast, Convert, Operate, And, Or, Comma, Conditional, Assign, Update, Exprs, NoExpr, WithExpr, Shape, Single, Unsized, Sized, Initial, Absent, Value, Listed, Object, Declared, Param, Parameter, Declaration, Objects, Prototype, Label, Case, Default, ForStart, NoStart, StartValue, StartDeclaration, Statement, Block, Empty, Evaluate, Marker, If, IfElse, While, Do, For, Switch, Break, Continue, Return, Items, NoItem, WithDeclaration, WithStatement, WithRestriction, WithLabel, Function, Defined, External, Restriction, Declaring, Defining, Program}

abbrev mutual
  pub place_of : places.Place → Place
  place_of (places.Scalar object at) = Scalar object.0 at
  place_of (places.Element' array p index at) = Element array.0 (expr_of index) at
  place_of (places.Paren' p inner at) = Within (place_of inner) at

  pub expr_of : exprs.Expr → Expr
  expr_of (exprs.Number constant at) = Number constant at
  expr_of (exprs.Character value at) = Character value at
  expr_of (exprs.Read place) = Read (place_of place)
  expr_of (exprs.Array object at) = Array object.0 at
  expr_of (exprs.Paren' p inner at) = Paren (expr_of inner) at
  expr_of (exprs.Call' callee shape arguments at) = Call callee (exprs_row arguments) at
  expr_of (exprs.Step' fix operator kind p target at) = Step fix operator kind (place_of target) at
  expr_of (exprs.Sign' operator kind p operand at) = Signed operator kind (expr_of operand) at
  expr_of (exprs.Cast' specifiers to p operand at) = Cast specifiers.items to (expr_of operand) at
  expr_of (exprs.Convert' to p operand) = Convert to (expr_of operand)
  expr_of (exprs.Operate' operator kind p left q right at) = Operate operator kind (expr_of left) (expr_of right) at
  expr_of (exprs.And' p left q right at) = And (expr_of left) (expr_of right) at
  expr_of (exprs.Or' p left q right at) = Or (expr_of left) (expr_of right) at
  expr_of (exprs.Comma' p left q right at) = Comma (expr_of left) (expr_of right) at
  expr_of (exprs.Conditional' p test q first r second at) = Conditional (expr_of test) (expr_of first) (expr_of second) at
  expr_of (exprs.Assign' p target q value at) = Assign (place_of target) (expr_of value) at
  expr_of (exprs.Update' operator kind to p target q value at) = Update operator kind to (place_of target) (expr_of value) at

  pub exprs_row : {m : _} → exprs.Row_of-Expr m → Exprs
  exprs_row exprs.end_of-Expr = NoExpr
  exprs_row (exprs.more_of-Expr e rest) = WithExpr (expr_of e) (exprs_row rest)

abbrev pub exprs_of : List exprs.Expr → Exprs
exprs_of [] = NoExpr
exprs_of (e ∷ rest) = WithExpr (expr_of e) (exprs_of rest)

abbrev pub shape_of : shapes.Shape → Shape
shape_of shape.Scalar = Single
shape_of shape.Unsized = Unsized
shape_of (shape.Sized size) = Sized (expr_of size)

abbrev pub loop_of : LoopId → ℕ
loop_of number = number.0

abbrev pub initial_of : initials.Initial → Initial
initial_of initial.Absent = Absent
initial_of (initial.Value value) = Value (expr_of value)
initial_of (initial.List values comma filling) = Listed (exprs_of values.items) comma (map_option loop_of filling)

abbrev pub object_of : objects.Object → Object
object_of object = Declared object.object.0 (shape_of object.shape) (initial_of object.initial) object.at

abbrev pub param_of : params.Param → Param
param_of param = Parameter param.specifiers.items (map_option id_of param.name) (shape_of param.shape) param.at

abbrev pub declaration_of : declarations.Declaration → Declaration
declaration_of (declaration.Objects specifiers objects at) = Objects specifiers.items (map object_of objects.items) at
declaration_of (declaration.Prototype specifiers name params at) = Prototype specifiers.items name.0 (map param_of params.items) at

abbrev pub label_of : labels.Label → Label
label_of (label.Case value word at) = Case (expr_of value) word at
label_of (label.Default at) = Default at

abbrev pub start_of : starts.ForStart → ForStart
start_of start.Absent = NoStart
start_of (start.Expression value) = StartValue (expr_of value)
start_of (start.Declaration declaration) = StartDeclaration (declaration_of declaration)

abbrev mutual
  pub statement_of : statements.Statement → Statement
  statement_of (statements.Block' shape items at) = Block (items_row items) at
  statement_of (statements.Empty at) = Empty at
  statement_of (statements.Evaluate value at) = Evaluate (expr_of value) at
  statement_of (statements.Marker number pragma) = Marker number.0 pragma
  statement_of (statements.If' test p first at) = If (expr_of test) (statement_of first) at
  statement_of (statements.IfElse' test p first q second at) = IfElse (expr_of test) (statement_of first) (statement_of second) at
  statement_of (statements.While' number bound test p body at) = While number.0 bound (expr_of test) (statement_of body) at
  statement_of (statements.Do' number bound p body test at) = Do number.0 bound (statement_of body) (expr_of test) at
  statement_of (statements.For' number bound start test step p body at) = For number.0 bound (start_of start) (map_option expr_of test) (map_option expr_of step) (statement_of body) at
  statement_of (statements.Switch' test shape items at) = Switch (expr_of test) (items_row items) at
  statement_of (statements.Break at) = Break at
  statement_of (statements.Continue at) = Continue at
  statement_of (statements.Return value at) = Return (map_option expr_of value) at

  -- one item before others
  pub with_item : items.Item → Items → Items
  with_item (items.Declaration declaration) rest = WithDeclaration (declaration_of declaration) rest
  with_item (items.Statement statement) rest = WithStatement (statement_of statement) rest
  with_item (items.Restriction pragma) rest = WithRestriction pragma rest
  with_item (items.Label label) rest = WithLabel (label_of label) rest

  pub items_row : {m : _} → statements.Row_of-Item m → Items
  items_row statements.end_of-Item = NoItem
  items_row (statements.more_of-Item item rest) = with_item item (items_row rest)

abbrev pub items_of : List items.Item → Items
items_of [] = NoItem
items_of (item ∷ rest) = with_item item (items_of rest)

abbrev pub function_of : functions.Function → Function
function_of function = Defined function.specifiers.items function.name.0 function.name_at (map param_of function.params.items) function.first.0 (items_of function.body.items) function.body_at function.at

abbrev pub external_of : externals.External → External
external_of (external.Restriction pragma) = Restriction pragma
external_of (external.Declaration declaration) = Declaring (declaration_of declaration)
external_of (external.Function number) = Defining number.0

abbrev pub program_of : programs.Program → Program
program_of program = record {
  items = map external_of program.items.items;
  functions = map function_of program.functions.items;
  variables = program.variables.items;
  at = program.at;
}
