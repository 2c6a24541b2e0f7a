-- The trees of the code, without where they lie in memory; a name is its number.
use Rattle.std.specs.Prelude.{ℕ, List, [], ◌∷◌}
use Rattle.c_tree.specs.declared.expression.Expr as exprs
use Rattle.c_tree.specs.declared.declaration.Shape as shapes
use Rattle.c_tree.specs.declared.declaration.Shape.TheVariants as shape
use Rattle.c_tree.specs.declared.declaration.Initial as initials
use Rattle.c_tree.specs.declared.declaration.Initial.TheVariants as initial
use Rattle.c_tree.specs.declared.declaration.Object as objects
use Rattle.c_tree.specs.declared.declaration.Param as params
use Rattle.c_tree.specs.declared.declaration.Declaration as declarations
use Rattle.c_tree.specs.declared.declaration.Declaration.TheVariants as declaration
use Rattle.c_tree.specs.declared.expression.NameId.{NameId}
use Rattle.c_tree.specs.declared.statement.Label as labels
use Rattle.c_tree.specs.declared.statement.Label.TheVariants as label
use Rattle.c_tree.specs.declared.statement.ForStart as starts
use Rattle.c_tree.specs.declared.statement.ForStart.TheVariants as start
use Rattle.c_tree.specs.declared.statement.Item as items
use Rattle.c_tree.specs.declared.statement.Statement as statements
use Rattle.c_tree.specs.declared.external.Function as functions
use Rattle.c_tree.specs.declared.external.External as externals
use Rattle.c_tree.specs.declared.external.External.TheVariants as external
use Rattle.c_tree.specs.Tree.{Row, Nothing, Then, Expr, Number, Character, Name, Paren, Index, Call, Postfix, Prefix, Cast, Binary, Conditional, Assign, Exprs, NoExpr, AndExpr, Shape, Scalar, Unsized, Sized, Initial, Absent, Value, Listed, Object, Declared, Param, Parameter, Declaration, Objects, Prototype, Label, Case, Default, ForStart, NoStart, StartValue, StartDeclaration, Statement, Block, Empty, Evaluate, Marker, If, IfElse, While, Do, For, Switch, Break, Continue, Return, Items, NoItem, AndDeclaration, AndStatement, AndRestriction, AndLabel, External, Restriction, Declaring, Function, TranslationUnit, Whole}
use Rattle.c_tree.specs.Named.{map_option}
use Rattle.c_tree.specs.Size.{leaf, size_declaration, size_label, size_statement}
use Rattle.c_tree.specs.declared.size.Size.{Size}

abbrev mutual
  pub expr_of : exprs.Expr → Expr ℕ
  expr_of (exprs.Number constant at) = Number constant at
  expr_of (exprs.Character value at) = Character value at
  expr_of (exprs.Name name at) = Name name.0 at
  expr_of (exprs.Paren' p inner at) = Paren (expr_of inner) at
  expr_of (exprs.Index' array p index at) = Index array.0 (expr_of index) at
  expr_of (exprs.Call' function shape arguments at) = Call function.0 (exprs_row NoExpr arguments) at
  expr_of (exprs.Postfix' operator p operand at) = Postfix operator (expr_of operand) at
  expr_of (exprs.Prefix' operator p operand at) = Prefix operator (expr_of operand) at
  expr_of (exprs.Cast' specifiers p operand at) = Cast specifiers.items (expr_of operand) at
  expr_of (exprs.Binary' operator p left q right at) = Binary operator (expr_of left) (expr_of right) at
  expr_of (exprs.Conditional' p test q first r second at) = Conditional (expr_of test) (expr_of first) (expr_of second) at
  expr_of (exprs.Assign' operator p target q value at) = Assign operator (expr_of target) (expr_of value) at

  pub exprs_row : Exprs ℕ → {m : _} → exprs.Row_of-Expr m → Exprs ℕ
  exprs_row front exprs.end_of-Expr = front
  exprs_row front (exprs.more_of-Expr e rest) = exprs_row (AndExpr front (expr_of e)) rest

-- these behind those before
abbrev pub exprs_of : Exprs ℕ → List exprs.Expr → Exprs ℕ
exprs_of front [] = front
exprs_of front (e ∷ rest) = exprs_of (AndExpr front (expr_of e)) rest

abbrev pub row_of : {A B : Type 0} → (A → B) → Row B → List A → Row B
row_of g front [] = front
row_of g front (x ∷ rest) = row_of g (Then front (g x)) rest

abbrev pub shape_of : shapes.Shape → Shape ℕ
shape_of shape.Scalar = Scalar
shape_of shape.Unsized = Unsized
shape_of (shape.Sized size) = Sized (expr_of size)

abbrev pub initial_of : initials.Initial → Initial ℕ
initial_of initial.Absent = Absent
initial_of (initial.Value value) = Value (expr_of value)
initial_of (initial.List values comma) = Listed (exprs_of NoExpr values.items) comma

abbrev pub object_of : objects.Object → Object ℕ
object_of object = Declared object.name.0 (shape_of object.shape) (initial_of object.initial) object.at

abbrev pub id_of : NameId → ℕ
id_of name = name.0

abbrev pub param_of : params.Param → Param ℕ
param_of param = Parameter param.specifiers.items (map_option id_of param.name) (shape_of param.shape) param.at

abbrev pub declaration_of : declarations.Declaration → Declaration ℕ
declaration_of (declaration.Objects specifiers objects at) = Objects specifiers.items (row_of object_of Nothing objects.items) at
declaration_of (declaration.Prototype specifiers name params at) = Prototype specifiers.items name.0 (row_of param_of Nothing params.items) at

abbrev pub label_of : labels.Label → Label ℕ
label_of (label.Case value at) = Case (expr_of value) at
label_of (label.Default at) = Default at

abbrev pub start_of : starts.ForStart → ForStart ℕ
start_of start.Absent = NoStart
start_of (start.Expression value) = StartValue (expr_of value)
start_of (start.Declaration declaration) = StartDeclaration (declaration_of declaration)

abbrev mutual
  pub statement_of : statements.Statement → Statement ℕ
  statement_of (statements.Block' shape items at) = Block (items_row NoItem items) at
  statement_of (statements.Empty at) = Empty at
  statement_of (statements.Expression value at) = Evaluate (expr_of value) at
  statement_of (statements.Marker pragma) = Marker pragma
  statement_of (statements.If' test p first at) = If (expr_of test) (statement_of first) at
  statement_of (statements.IfElse' test p first q second at) = IfElse (expr_of test) (statement_of first) (statement_of second) at
  statement_of (statements.While' bound test p body at) = While bound (expr_of test) (statement_of body) at
  statement_of (statements.Do' bound p body test at) = Do bound (statement_of body) (expr_of test) at
  statement_of (statements.For' bound head p body at) = For bound (start_of head.value.start) (map_option expr_of head.value.test) (map_option expr_of head.value.step) (statement_of body) at
  statement_of (statements.Switch' test shape items at) = Switch (expr_of test) (items_row NoItem items) at
  statement_of (statements.Break at) = Break at
  statement_of (statements.Continue at) = Continue at
  statement_of (statements.Return value at) = Return (map_option expr_of value) at

  -- one item more
  pub and_item : Items ℕ → items.Item → Items ℕ
  and_item front (items.Declaration declaration) = AndDeclaration front (declaration_of declaration)
  and_item front (items.Statement statement) = AndStatement front (statement_of statement)
  and_item front (items.Restriction pragma) = AndRestriction front pragma
  and_item front (items.Label label) = AndLabel front (label_of label)

  pub items_row : Items ℕ → {m : _} → statements.Row_of-Item m → Items ℕ
  items_row front statements.end_of-Item = front
  items_row front (statements.more_of-Item item rest) = items_row (and_item front item) rest

-- these behind those before
abbrev pub items_of : Items ℕ → List items.Item → Items ℕ
items_of front [] = front
items_of front (item ∷ rest) = items_of (and_item front item) rest

-- the size of an item
abbrev pub item_size : items.Item → Size
item_size (items.Declaration declaration) = size_declaration (declaration_of declaration)
item_size (items.Statement statement) = size_statement (statement_of statement)
item_size (items.Restriction pragma) = leaf
item_size (items.Label label) = size_label (label_of label)

abbrev pub function_of : functions.Function → External ℕ
function_of function = Function function.specifiers.items function.name.0 function.name_at (row_of param_of Nothing function.params.items) (items_of NoItem function.body.items) function.body_at function.at

abbrev pub external_of : externals.External → External ℕ
external_of (external.Restriction pragma) = Restriction pragma
external_of (external.Declaration declaration) = Declaring (declaration_of declaration)
external_of (external.Function function) = function_of function

abbrev pub unit_of : List externals.External → ℕ → TranslationUnit ℕ
unit_of externals at = Whole (row_of external_of Nothing externals) at
