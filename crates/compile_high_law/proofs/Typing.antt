-- The typed tree of a source has the constants of its tree.
use Rattle.std.proofs.Common.{ℕ, Bool, true, false, List, [], ◌∷◌, Option, Some, None}
use Rattle.std.specs.Prelude.{if◌then◌else◌, slice_get}
use Rattle.c_tree.specs.Tree.{Row, Nothing, Then, Expr, Number, Character, Name, Paren, Index, Call, Postfix, Prefix, Cast, Binary, Conditional, Assign, Exprs, NoExpr, AndExpr, Initial, Absent, Value, Listed, Object, Declared, Declaration, Objects, Prototype, Label, Case, Default, ForStart, NoStart, StartValue, StartDeclaration, Statement, Block, Empty, Evaluate, Marker, If, IfElse, While, Do, For, Switch, Break, Continue, Return, Items, NoItem, AndDeclaration, AndStatement, AndRestriction, AndLabel}
use Rattle.c_tree.specs.declared.expression.BinaryOperator.{BinaryOperator}
use Rattle.c_tree.specs.declared.expression.BinaryOperator.TheVariants as binary
use Rattle.c_tree.specs.declared.expression.PrefixOperator.{PrefixOperator}
use Rattle.types_tree.specs.Tree as typed
use Rattle.types_value.specs.Kinds.{promoted, same_kind}
use Rattle.types_value.specs.declared.kind.Kind.{Kind}
use Rattle.types_value.specs.declared.operator.Operator.{Operator}
use Rattle.types_value.specs.declared.operator.Sign.{Sign}
use Rattle.types_rules.specs.DeclarationRules.{Base, after_object, base_of, is_filled}
use Rattle.types_rules.specs.Operations.{left_kind, operator_of, right_kind, sign_of, update_of}
use Rattle.types_rules.specs.Scope.{Around, after_row, entered, found, params_of, with_loop}
use Rattle.types_rules.specs.StatementRules.{after, after_items, within_for}
use Rattle.types_rules.specs.Types.{callee, count, kind_of, takes_array}
use Rattle.types_rules.specs.Typing.{and_object, argument_of, converted, filling_of, operated, option_at, place_in, typed_arguments, typed_assign, typed_binary, typed_declaration, typed_expr, typed_initial, typed_items, typed_label, typed_name, typed_object, typed_option, typed_prefix, typed_row, typed_start, typed_statement, typed_value, value_at, values_at}
use Rattle.types_rules.specs.declared.scope.Binding.{Binding}
use Rattle.types_rules.specs.declared.scope.Binding.TheVariants.{Object as Thing, Function as Routine}
use Rattle.types_rules.specs.declared.scope.ParamType.{ParamType}
use Rattle.plan_law.specs.Words.{DeclarationWords, ExprWords, ExprsWords, InitialWords, ItemsWords, LabelWords, ObjectsWords, OptionWords, PlaceWords, StartWords, StatementWords}
use Rattle.compile_high_law.specs.Trees.{DeclarationTree, InitialTree, ItemsTree, LabelTree, ObjectTree, OptionTree, RowTree, StartTree, StatementTree, TreeWords, TreesWords}
use Rattle.compile_high_law.proofs.Folding.{case_word}

converted_words : (from to : Kind) (e : typed.Expr) → ExprWords e → ExprWords (converted from to e)
converted_words from to e h = of (same_kind from to)
  where
    of : (b : Bool) → ExprWords (if b then e else typed.Convert to e)
    of true = h
    of false = h

name_words : (as_array : Bool) (binding : Option Binding) (at : ℕ) → ExprWords (typed_name as_array binding at)
name_words false binding at = tt
name_words true None at = tt
name_words true (Some Routine) at = tt
name_words true (Some (Thing number kind const false)) at = tt
name_words true (Some (Thing number kind const true)) at = tt

place_words : (e : typed.Expr) → ExprWords e → PlaceWords (place_in e)
place_words (typed.Read place) h = h
place_words (typed.Paren inner at) h = place_words inner h
place_words (typed.Number constant at) h = tt
place_words (typed.Character value at) h = tt
place_words (typed.Array object at) h = tt
place_words (typed.Call callee arguments at) h = tt
place_words (typed.Step fix operator kind target at) h = tt
place_words (typed.Signed operator kind operand at) h = tt
place_words (typed.Cast specifiers to operand at) h = tt
place_words (typed.Convert to operand) h = tt
place_words (typed.Operate operator kind left right at) h = tt
place_words (typed.And left right at) h = tt
place_words (typed.Or left right at) h = tt
place_words (typed.Comma left right at) h = tt
place_words (typed.Conditional test first second at) h = tt
place_words (typed.Assign target value at) h = tt
place_words (typed.Update operator kind to target value at) h = tt

prefix_words : (sign : Option Sign) (operator : PrefixOperator) (kind : Kind) (e : typed.Expr) (at : ℕ) → ExprWords e → ExprWords (typed_prefix sign operator kind e at)
prefix_words None operator kind e at h = place_words e h
prefix_words (Some sign) operator kind e at h = converted_words kind (promoted kind) e h

operated_words : (operator : Option Operator) (a b : Kind) (left right : typed.Expr) (at : ℕ) → ExprWords left → ExprWords right → ExprWords (operated operator a b left right at)
operated_words None a b left right at h k = (h, k)
operated_words (Some operator) a b left right at h k = (converted_words a (left_kind operator a b) left h, converted_words b (right_kind operator a b) right k)

binary_words : (operator : BinaryOperator) (a b : Kind) (left right : typed.Expr) (at : ℕ) → ExprWords left → ExprWords right → ExprWords (typed_binary operator a b left right at)
binary_words binary.And a b left right at h k = (h, k)
binary_words binary.Or a b left right at h k = (h, k)
binary_words binary.Multiply a b left right at h k = operated_words (operator_of binary.Multiply) a b left right at h k
binary_words binary.Divide a b left right at h k = operated_words (operator_of binary.Divide) a b left right at h k
binary_words binary.Remainder a b left right at h k = operated_words (operator_of binary.Remainder) a b left right at h k
binary_words binary.Add a b left right at h k = operated_words (operator_of binary.Add) a b left right at h k
binary_words binary.Subtract a b left right at h k = operated_words (operator_of binary.Subtract) a b left right at h k
binary_words binary.ShiftLeft a b left right at h k = operated_words (operator_of binary.ShiftLeft) a b left right at h k
binary_words binary.ShiftRight a b left right at h k = operated_words (operator_of binary.ShiftRight) a b left right at h k
binary_words binary.Less a b left right at h k = operated_words (operator_of binary.Less) a b left right at h k
binary_words binary.Greater a b left right at h k = operated_words (operator_of binary.Greater) a b left right at h k
binary_words binary.LessEqual a b left right at h k = operated_words (operator_of binary.LessEqual) a b left right at h k
binary_words binary.GreaterEqual a b left right at h k = operated_words (operator_of binary.GreaterEqual) a b left right at h k
binary_words binary.Equal a b left right at h k = operated_words (operator_of binary.Equal) a b left right at h k
binary_words binary.NotEqual a b left right at h k = operated_words (operator_of binary.NotEqual) a b left right at h k
binary_words binary.BitAnd a b left right at h k = operated_words (operator_of binary.BitAnd) a b left right at h k
binary_words binary.BitXor a b left right at h k = operated_words (operator_of binary.BitXor) a b left right at h k
binary_words binary.BitOr a b left right at h k = operated_words (operator_of binary.BitOr) a b left right at h k
binary_words binary.Comma a b left right at h k = operated_words (operator_of binary.Comma) a b left right at h k

assign_words : (operator : Option Operator) (to from : Kind) (place : typed.Place) (value : typed.Expr) (at : ℕ) → PlaceWords place → ExprWords value → ExprWords (typed_assign operator to from place value at)
assign_words None to from place value at p v = (p, converted_words from to value v)
assign_words (Some operator) to from place value at p v = (p, converted_words from (right_kind operator to from) value v)

argument_words : (param : Option ParamType) (kind : Kind) (e : typed.Expr) → ExprWords e → ExprWords (argument_of param kind e)
argument_words None kind e h = h
argument_words (Some param) kind e h = of param.is_array
  where
    of : (b : Bool) → ExprWords (if b then e else converted kind param.kind e)
    of true = h
    of false = converted_words kind param.kind e h

mutual
  expr_words : (e : Expr ℕ) (as_array : Bool) (a : Around) → TreeWords e → ExprWords (typed_expr e as_array a)
  expr_words (Number constant at) as_array a h = h
  expr_words (Character value at) as_array a h = h
  expr_words (Name name at) as_array a h = name_words as_array (found name a) at
  expr_words (Paren inner at) as_array a h = expr_words inner false a h
  expr_words (Index array index at) as_array a h = expr_words index false a h
  expr_words (Call function arguments at) as_array a h = arguments_words arguments (params_of (callee function a)) a typed.NoExpr h tt
  expr_words (Postfix operator operand at) as_array a h = place_words (typed_expr operand false a) (expr_words operand false a h)
  expr_words (Prefix operator operand at) as_array a h = prefix_words (sign_of operator) operator (kind_of operand a) (typed_expr operand false a) at (expr_words operand false a h)
  expr_words (Cast specifiers operand at) as_array a h = expr_words operand false a h
  expr_words (Binary operator left right at) as_array a h =
      binary_words operator (kind_of left a) (kind_of right a) (typed_expr left false a) (typed_expr right false a) at (expr_words left false a h.0) (expr_words right false a h.1)
  expr_words (Conditional test first second at) as_array a h = (
    expr_words test false a h.0,
    converted_words (kind_of first a) (kind_of (Conditional test first second at) a) (typed_expr first false a) (expr_words first false a h.1),
    converted_words (kind_of second a) (kind_of (Conditional test first second at) a) (typed_expr second false a) (expr_words second false a h.2),
  )
  expr_words (Assign operator target value at) as_array a h =
      assign_words (update_of operator) (kind_of target a) (kind_of value a) (place_in (typed_expr target false a)) (typed_expr value false a) at (place_words (typed_expr target false a) (expr_words target false a h.0)) (expr_words value false a h.1)

  arguments_words : (es : Exprs ℕ) (params : List ParamType) (a : Around) (rest : typed.Exprs) → TreesWords es → ExprsWords rest → ExprsWords (typed_arguments es params a rest)
  arguments_words NoExpr params a rest h r = r
  arguments_words (AndExpr front last) params a rest h r =
      let param = slice_get params (count front) in
      let e = typed_expr last (takes_array param) a in
      arguments_words front params a (typed.WithExpr (argument_of param (kind_of last a) e) rest) h.0 (argument_words param (kind_of last a) e (expr_words last (takes_array param) a h.1), r)

value_words : (kind : Kind) (e : Expr ℕ) (a : Around) → TreeWords e → ExprWords (value_at kind e a)
value_words kind e a h = converted_words (kind_of e a) kind (typed_value e a) (expr_words e false a h)

values_words : (kind : Kind) (es : Exprs ℕ) (a : Around) (rest : typed.Exprs) → TreesWords es → ExprsWords rest → ExprsWords (values_at kind es a rest)
values_words kind NoExpr a rest h r = r
values_words kind (AndExpr front last) a rest h r = values_words kind front a (typed.WithExpr (value_at kind last a) rest) h.0 (value_words kind last a h.1, r)

option_words : (e : Option (Expr ℕ)) (a : Around) → OptionTree e → OptionWords (typed_option e a)
option_words None a h = tt
option_words (Some e) a h = expr_words e false a h

option_at_words : (kind : Kind) (e : Option (Expr ℕ)) (a : Around) → OptionTree e → OptionWords (option_at kind e a)
option_at_words kind None a h = tt
option_at_words kind (Some e) a h = value_words kind e a h

-- declarations
initial_words : (kind : Kind) (filling : Option ℕ) (initial : Initial ℕ) (a : Around) → InitialTree initial → InitialWords (typed_initial kind filling initial a)
initial_words kind filling Absent a h = tt
initial_words kind filling (Value value) a h = value_words kind value a h
initial_words kind filling (Listed values comma) a h = values_words kind values a typed.NoExpr h tt

objects_words : (base : Base) (objects : Row (Object ℕ)) (a : Around) (rest : List typed.Object) → RowTree ObjectTree objects → ObjectsWords rest → ObjectsWords (typed_row (after_object base) (and_object base) objects a rest)
objects_words base Nothing a rest h r = r
objects_words base (Then front (Declared name shape initial at)) a rest h r =
    let b = after_row (after_object base) front a in
    let o = Declared name shape initial at in
    objects_words base front a (typed_object base o b ∷ rest) h.0 (initial_words base.kind (filling_of (is_filled shape initial b) b.loops) initial (after_object base o b) h.1, r)

pub declaration_words : (declaration : Declaration ℕ) (a : Around) → DeclarationTree declaration → DeclarationWords (typed_declaration declaration a)
declaration_words (Objects specifiers objects at) a h = objects_words (base_of specifiers) objects a [] h tt
declaration_words (Prototype specifiers name params at) a h = tt

label_words : (label : Label ℕ) (a : Around) → LabelTree label → LabelWords (typed_label label a)
label_words (Case value at) a h = case_word value h
label_words (Default at) a h = tt

start_words : (start : ForStart ℕ) (a : Around) → StartTree start → StartWords (typed_start start a)
start_words NoStart a h = tt
start_words (StartValue value) a h = expr_words value false a h
start_words (StartDeclaration declaration) a h = declaration_words declaration a h

-- statements
mutual
  statement_words : (result : Kind) (s : Statement ℕ) (a : Around) → StatementTree s → StatementWords (typed_statement result s a)
  statement_words result (Block items at) a h = items_words result items (entered a) typed.NoItem h tt
  statement_words result (Empty at) a h = tt
  statement_words result (Evaluate value at) a h = expr_words value false a h
  statement_words result (Marker pragma) a h = tt
  statement_words result (If test first at) a h = (expr_words test false a h.0, statement_words result first a h.1)
  statement_words result (IfElse test first second at) a h = (expr_words test false a h.0, statement_words result first a h.1, statement_words result second (after first a) h.2)
  statement_words result (While bound test body at) a h = (expr_words test false (with_loop a) h.0, statement_words result body (with_loop a) h.1)
  statement_words result (Do bound body test at) a h = (statement_words result body (with_loop a) h.0, expr_words test false (after body (with_loop a)) h.1)
  statement_words result (For bound start test step body at) a h =
      let within = within_for start a in
      (start_words start (with_loop (entered a)) h.0, option_words test within h.1, option_words step within h.2, statement_words result body within h.3)
  statement_words result (Switch test items at) a h = (value_words (promoted (kind_of test a)) test a h.0, items_words result items (entered a) typed.NoItem h.1 tt)
  statement_words result (Break at) a h = tt
  statement_words result (Continue at) a h = tt
  statement_words result (Return value at) a h = option_at_words result value a h

  pub items_words : (result : Kind) (items : Items ℕ) (a : Around) (rest : typed.Items) → ItemsTree items → ItemsWords rest → ItemsWords (typed_items result items a rest)
  items_words result NoItem a rest h r = r
  items_words result (AndDeclaration front declaration) a rest h r =
      items_words result front a (typed.WithDeclaration (typed_declaration declaration (after_items front a)) rest) h.0 (declaration_words declaration (after_items front a) h.1, r)
  items_words result (AndStatement front statement) a rest h r =
      items_words result front a (typed.WithStatement (typed_statement result statement (after_items front a)) rest) h.0 (statement_words result statement (after_items front a) h.1, r)
  items_words result (AndRestriction front pragma) a rest h r = items_words result front a (typed.WithRestriction pragma rest) h r
  items_words result (AndLabel front label) a rest h r = items_words result front a (typed.WithLabel (typed_label label (after_items front a)) rest) h.0 (label_words label (after_items front a) h.1, r)
