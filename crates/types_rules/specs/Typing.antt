-- The typed tree of a unit: its conversions written in, its objects, functions, loops and markers by number
-- (C11 6.3, 6.5.2.2, 6.5.16, 6.7.9, 6.8.4.2, 6.8.6.4). It is that of a unit at which no rule fails; elsewhere it means nothing.
use Rattle.std.specs.Prelude.{ℕ, ◌+◌, nat_eq, Bool, true, false, if◌then◌else◌, List, [], ◌∷◌, length, Option, Some, None, slice_get}
use Rattle.c_tree.specs.Tree.{Row, Nothing, Then, Expr, Number, Character, Name, Paren, Index, Call, Postfix, Prefix, Cast, Binary, Conditional, Assign, Exprs, NoExpr, AndExpr, Shape, Scalar, Unsized, Sized, Initial, Absent, Value, Listed, Object, Declared, Param, Parameter, Declaration, Objects, Prototype, Label, Case, Default, ForStart, NoStart, StartValue, StartDeclaration, Statement, Block, Empty, Evaluate, Marker, If, IfElse, While, Do, For, Switch, Break, Continue, Return, Items, NoItem, AndDeclaration, AndStatement, AndRestriction, AndLabel, External, Restriction, Declaring, Function, TranslationUnit, Whole}
use Rattle.c_tree.specs.declared.expression.BinaryOperator.{BinaryOperator}
use Rattle.c_tree.specs.declared.expression.BinaryOperator.TheVariants as binary
use Rattle.c_tree.specs.declared.expression.PostfixOperator.{PostfixOperator}
use Rattle.c_tree.specs.declared.expression.PostfixOperator.TheVariants.{Increment, Decrement}
use Rattle.c_tree.specs.declared.expression.PrefixOperator.{PrefixOperator}
use Rattle.c_tree.specs.declared.expression.PrefixOperator.TheVariants as prefix
use Rattle.types_tree.specs.Tree as typed
use Rattle.types_tree.specs.declared.expression.Callee.{Callee}
use Rattle.types_tree.specs.declared.expression.Callee.TheVariants.{Getchar, Putchar, Function as Own}
use Rattle.types_tree.specs.declared.expression.Fix.TheVariants as fix
use Rattle.types_value.specs.Kinds.{promoted, same_kind}
use Rattle.types_value.specs.declared.kind.Kind.{Kind}
use Rattle.types_value.specs.declared.operator.Operator.{Operator}
use Rattle.types_value.specs.declared.operator.Sign.{Sign}
use Rattle.types_rules.specs.Constants.{constant_word}
use Rattle.types_rules.specs.DeclarationRules.{Base, after_object, base_of, is_filled, within_function}
use Rattle.types_rules.specs.Operations.{left_kind, operator_of, right_kind, sign_of, update_of}
use Rattle.types_rules.specs.Scope.{Around, after_row, unseen, Outline, entered, found, index_of, or_zero, params_of, started, with_loop}
use Rattle.types_rules.specs.Sights.{after_external, after_externals, body_around}
use Rattle.types_rules.specs.Specifiers.{kind_spelled}
use Rattle.types_rules.specs.StatementRules.{after, after_items, within_for}
use Rattle.types_rules.specs.Types.{callee, count, kind_of, takes_array}
use Rattle.types_rules.specs.declared.scope.Binding.{Binding}
use Rattle.types_rules.specs.declared.scope.Binding.TheVariants.{Object as Thing}
use Rattle.types_rules.specs.declared.scope.ParamType.{ParamType}

-- a conversion, where the types differ
abbrev pub converted : (from to : Kind) → typed.Expr → typed.Expr
converted from to e = if same_kind from to then e else typed.Convert to e

abbrev pub object_number : Option Binding → ℕ
object_number (Some (Thing number kind const array)) = number.0
object_number _ = 0

-- a name as a value, or as an argument for an array parameter
abbrev pub typed_name : (as_array : Bool) → Option Binding → ℕ → typed.Expr
typed_name true (Some (Thing number kind const true)) at = typed.Array number.0 at
typed_name as_array binding at = typed.Read (typed.Scalar (object_number binding) at)

-- where a call of a name goes
abbrev pub callee_of : ℕ → Outline → Callee
callee_of name outline =
    if nat_eq name outline.getchar then Getchar
    else (if nat_eq name outline.putchar then Putchar else Own (record { 0 = index_of name outline.definitions }))

-- the place that is read, in order to assign or step it
abbrev pub place_in : typed.Expr → typed.Place
place_in (typed.Read place) = place
place_in (typed.Paren inner at) = typed.Within (place_in inner) at
place_in _ = typed.Scalar 0 0

abbrev pub step_of : PrefixOperator → PostfixOperator
step_of prefix.Decrement = Decrement
step_of _ = Increment

-- an operator that writes nothing computes at the promoted type of its operand; the others are steps
abbrev pub typed_prefix : Option Sign → PrefixOperator → Kind → typed.Expr → ℕ → typed.Expr
typed_prefix None operator kind e at = typed.Step fix.Prefix (step_of operator) kind (place_in e) at
typed_prefix (Some sign) operator kind e at = typed.Signed sign (promoted kind) (converted kind (promoted kind) e) at

abbrev pub operated : Option Operator → (a b : Kind) → (left right : typed.Expr) → ℕ → typed.Expr
operated None a b left right at = typed.Comma left right at
operated (Some operator) a b left right at =
    typed.Operate operator (left_kind operator a b) (converted a (left_kind operator a b) left) (converted b (right_kind operator a b) right) at

abbrev pub typed_binary : BinaryOperator → (a b : Kind) → (left right : typed.Expr) → ℕ → typed.Expr
typed_binary binary.And a b left right at = typed.And left right at
typed_binary binary.Or a b left right at = typed.Or left right at
typed_binary operator a b left right at = operated (operator_of operator) a b left right at

-- the value of an assignment is converted to the type of what is assigned; a compound one computes as its operator does
abbrev pub typed_assign : Option Operator → (to from : Kind) → typed.Place → typed.Expr → ℕ → typed.Expr
typed_assign None to from place value at = typed.Assign place (converted from to value) at
typed_assign (Some operator) to from place value at = typed.Update operator (left_kind operator to from) to place (converted from (right_kind operator to from) value) at

-- an argument is converted to the type of its parameter
abbrev pub argument_of : Option ParamType → Kind → typed.Expr → typed.Expr
argument_of None kind e = e
argument_of (Some param) kind e = if param.is_array then e else converted kind param.kind e

abbrev mutual
  pub typed_expr : Expr ℕ → (as_array : Bool) → Around → typed.Expr
  typed_expr (Number constant at) as_array a = typed.Number constant at
  typed_expr (Character value at) as_array a = typed.Character value at
  typed_expr (Name name at) as_array a = typed_name as_array (found name a) at
  typed_expr (Paren inner at) as_array a = typed.Paren (typed_expr inner false a) at
  typed_expr (Index array index at) as_array a = typed.Read (typed.Element (object_number (found array a)) (typed_expr index false a) at)
  typed_expr (Call function arguments at) as_array a = typed.Call (callee_of function a.outline) (typed_arguments arguments (params_of (callee function a)) a typed.NoExpr) at
  typed_expr (Postfix operator operand at) as_array a = typed.Step fix.Postfix operator (kind_of operand a) (place_in (typed_expr operand false a)) at
  typed_expr (Prefix operator operand at) as_array a = typed_prefix (sign_of operator) operator (kind_of operand a) (typed_expr operand false a) at
  typed_expr (Cast specifiers operand at) as_array a = typed.Cast specifiers (kind_spelled specifiers) (typed_expr operand false a) at
  typed_expr (Binary operator left right at) as_array a = typed_binary operator (kind_of left a) (kind_of right a) (typed_expr left false a) (typed_expr right false a) at
  typed_expr (Conditional test first second at) as_array a =
      typed.Conditional (typed_expr test false a)
      (converted (kind_of first a) (kind_of (Conditional test first second at) a) (typed_expr first false a))
      (converted (kind_of second a) (kind_of (Conditional test first second at) a) (typed_expr second false a)) at
  typed_expr (Assign operator target value at) as_array a =
      typed_assign (update_of operator) (kind_of target a) (kind_of value a) (place_in (typed_expr target false a)) (typed_expr value false a) at

  -- the arguments for these parameters, before others
  pub typed_arguments : Exprs ℕ → List ParamType → Around → typed.Exprs → typed.Exprs
  typed_arguments NoExpr params a rest = rest
  typed_arguments (AndExpr front last) params a rest =
      let param = slice_get params (count front) in
      typed_arguments front params a (typed.WithExpr (argument_of param (kind_of last a) (typed_expr last (takes_array param) a)) rest)

abbrev pub typed_value : Expr ℕ → Around → typed.Expr
typed_value e a = typed_expr e false a

-- a value that is converted to a type
abbrev pub value_at : Kind → Expr ℕ → Around → typed.Expr
value_at kind e a = converted (kind_of e a) kind (typed_value e a)

-- values that are converted to a type, before others
abbrev pub values_at : Kind → Exprs ℕ → Around → typed.Exprs → typed.Exprs
values_at kind NoExpr a rest = rest
values_at kind (AndExpr front last) a rest = values_at kind front a (typed.WithExpr (value_at kind last a) rest)

abbrev pub typed_option : Option (Expr ℕ) → Around → Option typed.Expr
typed_option None a = None
typed_option (Some e) a = Some (typed_value e a)

abbrev pub option_at : Kind → Option (Expr ℕ) → Around → Option typed.Expr
option_at kind None a = None
option_at kind (Some e) a = Some (value_at kind e a)

abbrev pub typed_shape : Shape ℕ → Around → typed.Shape
typed_shape Scalar a = typed.Single
typed_shape Unsized a = typed.Unsized
typed_shape (Sized size) a = typed.Sized (typed_value size a)

abbrev pub filling_of : (filled : Bool) → (loops : ℕ) → Option ℕ
filling_of true loops = Some (loops + 1)
filling_of false loops = None

abbrev pub typed_initial : Kind → (filling : Option ℕ) → Initial ℕ → Around → typed.Initial
typed_initial kind filling Absent a = typed.Absent
typed_initial kind filling (Value value) a = typed.Value (value_at kind value a)
typed_initial kind filling (Listed values comma) a = typed.Listed (values_at kind values a typed.NoExpr) comma filling

abbrev pub typed_object : Base → Object ℕ → Around → typed.Object
typed_object base (Declared name shape initial at) a =
    typed.Declared (length a.variables) (typed_shape shape a)
    (typed_initial base.kind (filling_of (is_filled shape initial a) a.loops) initial (after_object base (Declared name shape initial at) a)) at

-- what the parts of a row give, each seen behind those before it, before others
abbrev pub typed_row : {B T : Type 0} → (B → Around → Around) → (B → Around → List T → List T) → Row B → Around → List T → List T
typed_row step make Nothing a rest = rest
typed_row step make (Then front last) a rest = typed_row step make front a (make last (after_row step front a) rest)

abbrev pub and_object : Base → Object ℕ → Around → List typed.Object → List typed.Object
and_object base object a rest = typed_object base object a ∷ rest

abbrev pub typed_param : Around → Param ℕ → typed.Param
typed_param a (Parameter specifiers name shape at) = typed.Parameter specifiers name (typed_shape shape a) at

abbrev pub and_param : Param ℕ → Around → List typed.Param → List typed.Param
and_param param a rest = typed_param a param ∷ rest

-- sizes of parameters are constants, for which it doesn't matter what is visible
abbrev pub typed_params : Row (Param ℕ) → Around → List typed.Param
typed_params params a = typed_row unseen and_param params a []

abbrev pub typed_declaration : Declaration ℕ → Around → typed.Declaration
typed_declaration (Objects specifiers objects at) a = typed.Objects specifiers (typed_row (after_object (base_of specifiers)) (and_object (base_of specifiers)) objects a []) at
typed_declaration (Prototype specifiers name params at) a = typed.Prototype specifiers name (typed_params params a) at

abbrev pub typed_label : Label ℕ → Around → typed.Label
typed_label (Case value at) a = typed.Case (typed_value value a) (or_zero (constant_word value)) at
typed_label (Default at) a = typed.Default at

abbrev pub typed_start : ForStart ℕ → Around → typed.ForStart
typed_start NoStart a = typed.NoStart
typed_start (StartValue value) a = typed.StartValue (typed_value value a)
typed_start (StartDeclaration declaration) a = typed.StartDeclaration (typed_declaration declaration a)

abbrev mutual
  -- a statement of a function with a result of this type
  pub typed_statement : Kind → Statement ℕ → Around → typed.Statement
  typed_statement result (Block items at) a = typed.Block (typed_items result items (entered a) typed.NoItem) at
  typed_statement result (Empty at) a = typed.Empty at
  typed_statement result (Evaluate value at) a = typed.Evaluate (typed_value value a) at
  typed_statement result (Marker pragma) a = typed.Marker a.markers pragma
  typed_statement result (If test first at) a = typed.If (typed_value test a) (typed_statement result first a) at
  typed_statement result (IfElse test first second at) a = typed.IfElse (typed_value test a) (typed_statement result first a) (typed_statement result second (after first a)) at
  typed_statement result (While bound test body at) a = typed.While (a.loops + 1) bound (typed_value test (with_loop a)) (typed_statement result body (with_loop a)) at
  typed_statement result (Do bound body test at) a = typed.Do (a.loops + 1) bound (typed_statement result body (with_loop a)) (typed_value test (after body (with_loop a))) at
  typed_statement result (For bound start test step body at) a =
      let within = within_for start a in
      typed.For (a.loops + 1) bound (typed_start start (with_loop (entered a))) (typed_option test within) (typed_option step within) (typed_statement result body within) at
  typed_statement result (Switch test items at) a = typed.Switch (value_at (promoted (kind_of test a)) test a) (typed_items result items (entered a) typed.NoItem) at
  typed_statement result (Break at) a = typed.Break at
  typed_statement result (Continue at) a = typed.Continue at
  typed_statement result (Return value at) a = typed.Return (option_at result value a) at

  -- items, before others
  pub typed_items : Kind → Items ℕ → Around → typed.Items → typed.Items
  typed_items result NoItem a rest = rest
  typed_items result (AndDeclaration front declaration) a rest = typed_items result front a (typed.WithDeclaration (typed_declaration declaration (after_items front a)) rest)
  typed_items result (AndStatement front statement) a rest = typed_items result front a (typed.WithStatement (typed_statement result statement (after_items front a)) rest)
  typed_items result (AndRestriction front pragma) a rest = typed_items result front a (typed.WithRestriction pragma rest)
  typed_items result (AndLabel front label) a rest = typed_items result front a (typed.WithLabel (typed_label label (after_items front a)) rest)

-- the external of this number among the functions
abbrev pub typed_external : External ℕ → Around → typed.External
typed_external (Restriction pragma) a = typed.Restriction pragma
typed_external (Declaring declaration) a = typed.Declaring (typed_declaration declaration a)
typed_external (Function specifiers name name_at params body body_at at) a = typed.Defining (length a.defined)

abbrev pub and_external : External ℕ → Around → List typed.External → List typed.External
and_external external a rest = typed_external external a ∷ rest

-- a function that an external defines, before others
abbrev pub typed_function : External ℕ → Around → List typed.Function → List typed.Function
typed_function (Restriction pragma) a rest = rest
typed_function (Declaring declaration) a rest = rest
typed_function (Function specifiers name name_at params body body_at at) a rest =
    typed.Defined specifiers name name_at (typed_params params (within_function specifiers name params a)) (length a.variables)
    (typed_items (kind_spelled specifiers) body (body_around specifiers name params a) typed.NoItem) body_at at
    ∷ rest

abbrev pub typed_unit : Outline → TranslationUnit ℕ → typed.Program
typed_unit outline (Whole items at) = record {
  items = typed_row after_external and_external items (started outline) [];
  functions = typed_row after_external typed_function items (started outline) [];
  variables = (after_externals items (started outline)).variables;
  at = at;
}
