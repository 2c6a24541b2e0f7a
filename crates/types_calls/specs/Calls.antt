-- Which defined functions a program's functions call, as often and in the order in which the calls stand.
use Rattle.std.specs.Prelude.{ℕ, ◌<◌, nat_lt, List, [], ◌∷◌, ◌++◌, length, map, filter, Option, Some, None}
use Rattle.std.specs.List.{All}
use Rattle.types_tree.specs.declared.expression.Callee.{Callee}
use Rattle.types_tree.specs.declared.expression.Callee.TheVariants.{Getchar, Putchar, Function as Own}
use Rattle.types_tree.specs.Tree.{Place, Scalar, Element, Within, Expr, Number, Character, Read, Array, Paren, Call, Step, Signed, Cast, Convert, Operate, And, Or, Comma, Conditional, Assign, Update, Exprs, NoExpr, WithExpr, Shape, Single, Unsized, Sized, Initial, Absent, Value, Listed, Object, Declared, Param, Parameter, Declaration, Objects, Prototype, Label, Case, Default, ForStart, NoStart, StartValue, StartDeclaration, Statement, Block, Empty, Evaluate, Marker, If, IfElse, While, Do, For, Switch, Break, Continue, Return, Items, NoItem, WithDeclaration, WithStatement, WithRestriction, WithLabel, Function, Defined, Program}

abbrev pub called : Callee → List ℕ
called Getchar = []
called Putchar = []
called (Own function) = function.0 ∷ []

abbrev mutual
  pub place_calls : Place → List ℕ
  place_calls (Scalar object at) = []
  place_calls (Element array index at) = expr_calls index
  place_calls (Within inner at) = place_calls inner

  pub expr_calls : Expr → List ℕ
  expr_calls (Number constant at) = []
  expr_calls (Character value at) = []
  expr_calls (Read place) = place_calls place
  expr_calls (Array object at) = []
  expr_calls (Paren inner at) = expr_calls inner
  expr_calls (Call callee arguments at) = called callee ++ exprs_calls arguments
  expr_calls (Step fix operator kind target at) = place_calls target
  expr_calls (Signed operator kind operand at) = expr_calls operand
  expr_calls (Cast specifiers to operand at) = expr_calls operand
  expr_calls (Convert to operand) = expr_calls operand
  expr_calls (Operate operator kind left right at) = expr_calls left ++ expr_calls right
  expr_calls (And left right at) = expr_calls left ++ expr_calls right
  expr_calls (Or left right at) = expr_calls left ++ expr_calls right
  expr_calls (Comma left right at) = expr_calls left ++ expr_calls right
  expr_calls (Conditional test first second at) = expr_calls test ++ (expr_calls first ++ expr_calls second)
  expr_calls (Assign target value at) = place_calls target ++ expr_calls value
  expr_calls (Update operator kind to target value at) = place_calls target ++ expr_calls value

  pub exprs_calls : Exprs → List ℕ
  exprs_calls NoExpr = []
  exprs_calls (WithExpr e rest) = expr_calls e ++ exprs_calls rest

abbrev pub option_calls : Option Expr → List ℕ
option_calls None = []
option_calls (Some e) = expr_calls e

abbrev pub shape_calls : Shape → List ℕ
shape_calls Single = []
shape_calls Unsized = []
shape_calls (Sized size) = expr_calls size

abbrev pub initial_calls : Initial → List ℕ
initial_calls Absent = []
initial_calls (Value value) = expr_calls value
initial_calls (Listed values comma filling) = exprs_calls values

abbrev pub object_calls : Object → List ℕ
object_calls (Declared object shape initial at) = shape_calls shape ++ initial_calls initial

abbrev pub objects_calls : List Object → List ℕ
objects_calls [] = []
objects_calls (object ∷ rest) = object_calls object ++ objects_calls rest

abbrev pub param_calls : Param → List ℕ
param_calls (Parameter specifiers name shape at) = shape_calls shape

abbrev pub params_calls : List Param → List ℕ
params_calls [] = []
params_calls (param ∷ rest) = param_calls param ++ params_calls rest

abbrev pub declaration_calls : Declaration → List ℕ
declaration_calls (Objects specifiers objects at) = objects_calls objects
declaration_calls (Prototype specifiers name params at) = params_calls params

abbrev pub label_calls : Label → List ℕ
label_calls (Case value word at) = expr_calls value
label_calls (Default at) = []

abbrev pub start_calls : ForStart → List ℕ
start_calls NoStart = []
start_calls (StartValue value) = expr_calls value
start_calls (StartDeclaration declaration) = declaration_calls declaration

abbrev mutual
  pub statement_calls : Statement → List ℕ
  statement_calls (Block items at) = items_calls items
  statement_calls (Empty at) = []
  statement_calls (Evaluate value at) = expr_calls value
  statement_calls (Marker number pragma) = []
  statement_calls (If test first at) = expr_calls test ++ statement_calls first
  statement_calls (IfElse test first second at) = expr_calls test ++ (statement_calls first ++ statement_calls second)
  statement_calls (While number bound test body at) = expr_calls test ++ statement_calls body
  statement_calls (Do number bound body test at) = statement_calls body ++ expr_calls test
  statement_calls (For number bound start test step body at) = start_calls start ++ (option_calls test ++ (option_calls step ++ statement_calls body))
  statement_calls (Switch test items at) = expr_calls test ++ items_calls items
  statement_calls (Break at) = []
  statement_calls (Continue at) = []
  statement_calls (Return value at) = option_calls value

  pub items_calls : Items → List ℕ
  items_calls NoItem = []
  items_calls (WithDeclaration declaration rest) = declaration_calls declaration ++ items_calls rest
  items_calls (WithStatement statement rest) = statement_calls statement ++ items_calls rest
  items_calls (WithRestriction pragma rest) = items_calls rest
  items_calls (WithLabel label rest) = label_calls label ++ items_calls rest

abbrev pub function_calls : Function → List ℕ
function_calls (Defined specifiers name name_at params first body body_at at) = params_calls params ++ items_calls body

-- for each function those that it calls
abbrev pub Graph : Type 0
Graph = List (List ℕ)

-- those calls that are of one of so many functions
abbrev pub calls_below : ℕ → List ℕ → List ℕ
calls_below count calls = filter (λ g. nat_lt g count) calls

-- of all functions, whether main reaches them or not
abbrev pub graph_of : Program → Graph
graph_of program = map (λ f. calls_below (length program.functions) (function_calls f)) program.functions

-- every function that a program's functions call is one of them
abbrev pub CallsDefined : Program → Type 0
CallsDefined program = All (λ function. All (λ number. number < length program.functions) (function_calls function)) program.functions
