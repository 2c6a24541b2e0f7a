-- The calls of a typed unit are of functions of numbers that it has, whether a rule fails or not.
use Rattle.std.proofs.Common.{◌≡◌, refl, ap, sym, subst, ℕ, ◌<◌, List, [], ◌∷◌, ◌++◌, length, Option, Some, None, Bool, true, false, nat_eq, if◌then◌else◌}
use Rattle.std.specs.Prelude.{position, slice_get}
use Rattle.std.specs.List.{All}
use Rattle.std.proofs.lemmas.List.Elements.{All-append, All-cons, All-nil}
use Rattle.std.proofs.lemmas.List.Quantifiers.{position-Some}
use Rattle.c_tree.specs.Tree.{Row, Nothing, Then, Expr, Number, Character, Name, Paren, Index, Call, Postfix, Prefix, Cast, Binary, Conditional, Assign, Exprs, NoExpr, AndExpr, Shape, Scalar, Unsized, Sized, Initial, Absent, Value, Listed, Object, Declared, Param, Parameter, Declaration, Objects, Prototype, Label, Case, Default, ForStart, NoStart, StartValue, StartDeclaration, Statement, Block, Empty, Evaluate, Marker, If, IfElse, While, Do, For, Switch, Break, Continue, Return, Items, NoItem, AndDeclaration, AndStatement, AndRestriction, AndLabel, External, Restriction, Declaring, Function}
use Rattle.c_tree.specs.declared.expression.BinaryOperator.{BinaryOperator}
use Rattle.c_tree.specs.declared.expression.BinaryOperator.TheVariants as binary
use Rattle.c_tree.specs.declared.expression.PrefixOperator.{PrefixOperator}
use Rattle.types_tree.specs.Tree as typed
use Rattle.types_tree.specs.declared.expression.Callee.TheVariants.{Getchar, Putchar, Function as Own}
use Rattle.types_value.specs.Kinds.{promoted, same_kind}
use Rattle.types_value.specs.declared.kind.Kind.{Kind}
use Rattle.types_value.specs.declared.operator.Operator.{Operator}
use Rattle.types_value.specs.declared.operator.Sign.{Sign}
use Rattle.types_rules.specs.DeclarationRules.{Base, after_object, base_of, is_filled, within_function}
use Rattle.types_rules.specs.Operations.{left_kind, operator_of, right_kind, sign_of, update_of}
use Rattle.types_rules.specs.Scope.{Around, Outline, after_row, entered, found, index_of, or_zero, params_of, unseen, with_loop}
use Rattle.types_rules.specs.Sights.{after_external, body_around}
use Rattle.types_rules.specs.Specifiers.{kind_spelled}
use Rattle.types_rules.specs.StatementRules.{after, after_items, within_for}
use Rattle.types_rules.specs.Types.{callee, count, kind_of, takes_array}
use Rattle.types_rules.specs.Typing.{and_object, and_param, argument_of, callee_of, converted, filling_of, operated, option_at, place_in, typed_arguments, typed_assign, typed_binary, typed_declaration, typed_expr, typed_function, typed_initial, typed_items, typed_label, typed_name, typed_object, typed_option, typed_params, typed_prefix, typed_row, typed_shape, typed_start, typed_statement, typed_value, value_at, values_at}
use Rattle.types_rules.specs.declared.scope.Binding.{Binding}
use Rattle.types_rules.specs.declared.scope.Binding.TheVariants.{Object as Thing, Function as Routine}
use Rattle.types_rules.specs.declared.scope.ParamType.{ParamType}
use Rattle.types_calls.specs.Calls.{called, declaration_calls, expr_calls, exprs_calls, function_calls, initial_calls, items_calls, label_calls, object_calls, objects_calls, option_calls, params_calls, place_calls, shape_calls, start_calls, statement_calls}
use Rattle.types_seen.proofs.OutlineKept as kept

abbrev pub Below : ℕ → List ℕ → Type 0
Below n numbers = All (λ number. number < n) numbers

none : (n : ℕ) → Below n []
none n = All-nil (λ number. number < n)

more : (n : ℕ) (xs ys : List ℕ) → Below n xs → Below n ys → Below n (xs ++ ys)
more n xs ys h k = All-append (λ number. number < n) xs ys h k

-- calls by names go to functions of numbers below n
pub record Safe (n : ℕ) (outline : Outline) : Type 0 where
  pub calls : (name : ℕ) → Below n (called (callee_of name outline))

moved : (n : ℕ) (a b : Around) → b.outline ≡ a.outline → Safe n a.outline → Safe n b.outline
moved n a b e s = subst (λ o. Safe n o) (sym e) s

found_below : (ns : List ℕ) (name : ℕ) (o : Option ℕ) → position (nat_eq name) ns ≡ o → 0 < length ns → or_zero o < length ns
found_below ns name None e h = h
found_below ns name (Some i) e h = (position-Some (nat_eq name) ns i 0 e).0

pub safe : (o : Outline) → 0 < length o.definitions → Safe (length o.definitions) o
safe o h = record { calls = λ name. of name (nat_eq name o.getchar) (nat_eq name o.putchar) }
  where
    of : (name : ℕ) (get put : Bool) → Below (length o.definitions) (called (if get then Getchar else (if put then Putchar else Own (record { 0 = index_of name o.definitions }))))
    of name true put = none (length o.definitions)
    of name false true = none (length o.definitions)
    of name false false =
        let n = length o.definitions in
        All-cons (λ number. number < n) (index_of name o.definitions) [] (found_below o.definitions name (position (nat_eq name) o.definitions) refl h) (none n)

name_calls : (x : Bool) (b : Option Binding) (at : ℕ) → expr_calls (typed_name x b at) ≡ []
name_calls true (Some (Thing number kind const true)) at = refl
name_calls true (Some (Thing number kind const false)) at = refl
name_calls true (Some Routine) at = refl
name_calls true None at = refl
name_calls false b at = refl

converted_below : (n : ℕ) (from to : Kind) (e : typed.Expr) → Below n (expr_calls e) → Below n (expr_calls (converted from to e))
converted_below n from to e h = of (same_kind from to)
  where
    of : (b : Bool) → Below n (expr_calls (if b then e else typed.Convert to e))
    of true = h
    of false = h

place_below : (n : ℕ) (e : typed.Expr) → Below n (expr_calls e) → Below n (place_calls (place_in e))
place_below n (typed.Number constant at) h = none n
place_below n (typed.Character value at) h = none n
place_below n (typed.Read place) h = h
place_below n (typed.Array object at) h = none n
place_below n (typed.Paren inner at) h = place_below n inner h
place_below n (typed.Call callee arguments at) h = none n
place_below n (typed.Step fix operator kind target at) h = none n
place_below n (typed.Signed operator kind operand at) h = none n
place_below n (typed.Cast specifiers to operand at) h = none n
place_below n (typed.Convert to operand) h = none n
place_below n (typed.Operate operator kind left right at) h = none n
place_below n (typed.And left right at) h = none n
place_below n (typed.Or left right at) h = none n
place_below n (typed.Comma left right at) h = none n
place_below n (typed.Conditional test first second at) h = none n
place_below n (typed.Assign target value at) h = none n
place_below n (typed.Update operator kind to target value at) h = none n

prefix_below : (n : ℕ) (sign : Option Sign) (operator : PrefixOperator) (kind : Kind) (e : typed.Expr) (at : ℕ) → Below n (expr_calls e) → Below n (expr_calls (typed_prefix sign operator kind e at))
prefix_below n None operator kind e at h = place_below n e h
prefix_below n (Some sign) operator kind e at h = converted_below n kind (promoted kind) e h

operated_below : (n : ℕ) (operator : Option Operator) (a b : Kind) (left right : typed.Expr) (at : ℕ) → Below n (expr_calls left) → Below n (expr_calls right) → Below n (expr_calls (operated operator a b left right at))
operated_below n None a b left right at l r = more n (expr_calls left) (expr_calls right) l r
operated_below n (Some operator) a b left right at l r =
    let first = converted a (left_kind operator a b) left in
    let second = converted b (right_kind operator a b) right in
    more n (expr_calls first) (expr_calls second) (converted_below n a (left_kind operator a b) left l) (converted_below n b (right_kind operator a b) right r)

binary_below : (n : ℕ) (operator : BinaryOperator) (a b : Kind) (left right : typed.Expr) (at : ℕ) → Below n (expr_calls left) → Below n (expr_calls right) → Below n (expr_calls (typed_binary operator a b left right at))
binary_below n binary.Multiply a b left right at l r = operated_below n (operator_of binary.Multiply) a b left right at l r
binary_below n binary.Divide a b left right at l r = operated_below n (operator_of binary.Divide) a b left right at l r
binary_below n binary.Remainder a b left right at l r = operated_below n (operator_of binary.Remainder) a b left right at l r
binary_below n binary.Add a b left right at l r = operated_below n (operator_of binary.Add) a b left right at l r
binary_below n binary.Subtract a b left right at l r = operated_below n (operator_of binary.Subtract) a b left right at l r
binary_below n binary.ShiftLeft a b left right at l r = operated_below n (operator_of binary.ShiftLeft) a b left right at l r
binary_below n binary.ShiftRight a b left right at l r = operated_below n (operator_of binary.ShiftRight) a b left right at l r
binary_below n binary.Less a b left right at l r = operated_below n (operator_of binary.Less) a b left right at l r
binary_below n binary.Greater a b left right at l r = operated_below n (operator_of binary.Greater) a b left right at l r
binary_below n binary.LessEqual a b left right at l r = operated_below n (operator_of binary.LessEqual) a b left right at l r
binary_below n binary.GreaterEqual a b left right at l r = operated_below n (operator_of binary.GreaterEqual) a b left right at l r
binary_below n binary.Equal a b left right at l r = operated_below n (operator_of binary.Equal) a b left right at l r
binary_below n binary.NotEqual a b left right at l r = operated_below n (operator_of binary.NotEqual) a b left right at l r
binary_below n binary.BitAnd a b left right at l r = operated_below n (operator_of binary.BitAnd) a b left right at l r
binary_below n binary.BitXor a b left right at l r = operated_below n (operator_of binary.BitXor) a b left right at l r
binary_below n binary.BitOr a b left right at l r = operated_below n (operator_of binary.BitOr) a b left right at l r
binary_below n binary.And a b left right at l r = more n (expr_calls left) (expr_calls right) l r
binary_below n binary.Or a b left right at l r = more n (expr_calls left) (expr_calls right) l r
binary_below n binary.Comma a b left right at l r = operated_below n (operator_of binary.Comma) a b left right at l r

assign_below : (n : ℕ) (operator : Option Operator) (to from : Kind) (place : typed.Place) (value : typed.Expr) (at : ℕ) → Below n (place_calls place) → Below n (expr_calls value) → Below n (expr_calls (typed_assign operator to from place value at))
assign_below n None to from place value at p v = more n (place_calls place) (expr_calls (converted from to value)) p (converted_below n from to value v)
assign_below n (Some operator) to from place value at p v =
    more n (place_calls place) (expr_calls (converted from (right_kind operator to from) value)) p (converted_below n from (right_kind operator to from) value v)

argument_below : (n : ℕ) (param : Option ParamType) (kind : Kind) (e : typed.Expr) → Below n (expr_calls e) → Below n (expr_calls (argument_of param kind e))
argument_below n None kind e h = h
argument_below n (Some param) kind e h = of param.is_array
  where
    of : (b : Bool) → Below n (expr_calls (if b then e else converted kind param.kind e))
    of true = h
    of false = converted_below n kind param.kind e h

mutual
  expr_below : (n : ℕ) (e : Expr ℕ) (x : Bool) (a : Around) → Safe n a.outline → Below n (expr_calls (typed_expr e x a))
  expr_below n (Number constant at) x a s = none n
  expr_below n (Character value at) x a s = none n
  expr_below n (Name name at) x a s = subst (Below n) (sym (name_calls x (found name a) at)) (none n)
  expr_below n (Paren inner at) x a s = expr_below n inner false a s
  expr_below n (Index array index at) x a s = expr_below n index false a s
  expr_below n (Call function arguments at) x a s =
      more n (called (callee_of function a.outline)) (exprs_calls (typed_arguments arguments (params_of (callee function a)) a typed.NoExpr))
      (s.calls function) (arguments_below n arguments (params_of (callee function a)) a typed.NoExpr s (none n))
  expr_below n (Postfix operator operand at) x a s = place_below n (typed_expr operand false a) (expr_below n operand false a s)
  expr_below n (Prefix operator operand at) x a s = prefix_below n (sign_of operator) operator (kind_of operand a) (typed_expr operand false a) at (expr_below n operand false a s)
  expr_below n (Cast specifiers operand at) x a s = expr_below n operand false a s
  expr_below n (Binary operator left right at) x a s =
      binary_below n operator (kind_of left a) (kind_of right a) (typed_expr left false a) (typed_expr right false a) at (expr_below n left false a s) (expr_below n right false a s)
  expr_below n (Conditional test first second at) x a s =
      let kind = kind_of (Conditional test first second at) a in
      let one = converted (kind_of first a) kind (typed_expr first false a) in
      let two = converted (kind_of second a) kind (typed_expr second false a) in
      more n (expr_calls (typed_expr test false a)) (expr_calls one ++ expr_calls two) (expr_below n test false a s)
      (more n (expr_calls one) (expr_calls two)
      (converted_below n (kind_of first a) kind (typed_expr first false a) (expr_below n first false a s))
      (converted_below n (kind_of second a) kind (typed_expr second false a) (expr_below n second false a s)))
  expr_below n (Assign operator target value at) x a s =
      assign_below n (update_of operator) (kind_of target a) (kind_of value a) (place_in (typed_expr target false a)) (typed_expr value false a) at
      (place_below n (typed_expr target false a) (expr_below n target false a s)) (expr_below n value false a s)

  arguments_below : (n : ℕ) (es : Exprs ℕ) (params : List ParamType) (a : Around) (rest : typed.Exprs) → Safe n a.outline → Below n (exprs_calls rest) → Below n (exprs_calls (typed_arguments es params a rest))
  arguments_below n NoExpr params a rest s h = h
  arguments_below n (AndExpr front last) params a rest s h =
      let param = slice_get params (count front) in
      let inner = typed_expr last (takes_array param) a in
      let made = argument_of param (kind_of last a) inner in
      arguments_below n front params a (typed.WithExpr made rest) s
      (more n (expr_calls made) (exprs_calls rest) (argument_below n param (kind_of last a) inner (expr_below n last (takes_array param) a s)) h)

value_below : (n : ℕ) (kind : Kind) (e : Expr ℕ) (a : Around) → Safe n a.outline → Below n (expr_calls (value_at kind e a))
value_below n kind e a s = converted_below n (kind_of e a) kind (typed_value e a) (expr_below n e false a s)

values_below : (n : ℕ) (kind : Kind) (es : Exprs ℕ) (a : Around) (rest : typed.Exprs) → Safe n a.outline → Below n (exprs_calls rest) → Below n (exprs_calls (values_at kind es a rest))
values_below n kind NoExpr a rest s h = h
values_below n kind (AndExpr front last) a rest s h =
    values_below n kind front a (typed.WithExpr (value_at kind last a) rest) s (more n (expr_calls (value_at kind last a)) (exprs_calls rest) (value_below n kind last a s) h)

option_below : (n : ℕ) (o : Option (Expr ℕ)) (a : Around) → Safe n a.outline → Below n (option_calls (typed_option o a))
option_below n None a s = none n
option_below n (Some e) a s = expr_below n e false a s

option_at_below : (n : ℕ) (kind : Kind) (o : Option (Expr ℕ)) (a : Around) → Safe n a.outline → Below n (option_calls (option_at kind o a))
option_at_below n kind None a s = none n
option_at_below n kind (Some e) a s = value_below n kind e a s

shape_below : (n : ℕ) (shape : Shape ℕ) (a : Around) → Safe n a.outline → Below n (shape_calls (typed_shape shape a))
shape_below n Scalar a s = none n
shape_below n Unsized a s = none n
shape_below n (Sized size) a s = expr_below n size false a s

initial_below : (n : ℕ) (kind : Kind) (filling : Option ℕ) (initial : Initial ℕ) (a : Around) → Safe n a.outline → Below n (initial_calls (typed_initial kind filling initial a))
initial_below n kind filling Absent a s = none n
initial_below n kind filling (Value value) a s = value_below n kind value a s
initial_below n kind filling (Listed values comma) a s = values_below n kind values a typed.NoExpr s (none n)

object_below : (n : ℕ) (base : Base) (o : Object ℕ) (a : Around) → Safe n a.outline → Below n (object_calls (typed_object base o a))
object_below n base (Declared name shape initial at) a s =
    let o = Declared name shape initial at in
    let filling = filling_of (is_filled shape initial a) a.loops in
    more n (shape_calls (typed_shape shape a)) (initial_calls (typed_initial base.kind filling initial (after_object base o a)))
    (shape_below n shape a s) (initial_below n base.kind filling initial (after_object base o a) (moved n a (after_object base o a) (kept.object base o a) s))

objects_below : (n : ℕ) (base : Base) (objects : Row (Object ℕ)) (a : Around) (rest : List typed.Object) → Safe n a.outline → Below n (objects_calls rest) → Below n (objects_calls (typed_row (after_object base) (and_object base) objects a rest))
objects_below n base Nothing a rest s h = h
objects_below n base (Then front last) a rest s h =
    let now = after_row (after_object base) front a in
    objects_below n base front a (typed_object base last now ∷ rest) s
    (more n (object_calls (typed_object base last now)) (objects_calls rest) (object_below n base last now (moved n a now (kept.row (after_object base) (kept.object base) front a) s)) h)

same : (n : ℕ) (params : Row (Param ℕ)) (a : Around) → after_row unseen params a ≡ a
same n Nothing a = refl
same n (Then front last) a = same n front a

params_below : (n : ℕ) (params : Row (Param ℕ)) (a : Around) (rest : List typed.Param) → Safe n a.outline → Below n (params_calls rest) → Below n (params_calls (typed_row unseen and_param params a rest))
params_below n Nothing a rest s h = h
params_below n (Then front (Parameter specifiers name shape at)) a rest s h =
    let now = after_row unseen front a in
    params_below n front a (typed.Parameter specifiers name (typed_shape shape now) at ∷ rest) s
    (more n (shape_calls (typed_shape shape now)) (params_calls rest) (shape_below n shape now (moved n a now (ap (λ b. b.outline) (same n front a)) s)) h)

declaration_below : (n : ℕ) (d : Declaration ℕ) (a : Around) → Safe n a.outline → Below n (declaration_calls (typed_declaration d a))
declaration_below n (Objects specifiers objects at) a s = objects_below n (base_of specifiers) objects a [] s (none n)
declaration_below n (Prototype specifiers name params at) a s = params_below n params a [] s (none n)

label_below : (n : ℕ) (label : Label ℕ) (a : Around) → Safe n a.outline → Below n (label_calls (typed_label label a))
label_below n (Case value at) a s = expr_below n value false a s
label_below n (Default at) a s = none n

start_below : (n : ℕ) (start : ForStart ℕ) (a : Around) → Safe n a.outline → Below n (start_calls (typed_start start a))
start_below n NoStart a s = none n
start_below n (StartValue value) a s = expr_below n value false a s
start_below n (StartDeclaration d) a s = declaration_below n d a s

mutual
  statement_below : (n : ℕ) (result : Kind) (t : Statement ℕ) (a : Around) → Safe n a.outline → Below n (statement_calls (typed_statement result t a))
  statement_below n result (Block items at) a s = items_below n result items (entered a) typed.NoItem s (none n)
  statement_below n result (Empty at) a s = none n
  statement_below n result (Evaluate value at) a s = expr_below n value false a s
  statement_below n result (Marker pragma) a s = none n
  statement_below n result (If test first at) a s =
      more n (expr_calls (typed_value test a)) (statement_calls (typed_statement result first a)) (expr_below n test false a s) (statement_below n result first a s)
  statement_below n result (IfElse test first second at) a s =
      let one = statement_calls (typed_statement result first a) in
      let two = statement_calls (typed_statement result second (after first a)) in
      more n (expr_calls (typed_value test a)) (one ++ two) (expr_below n test false a s)
      (more n one two (statement_below n result first a s) (statement_below n result second (after first a) (moved n a (after first a) (kept.statement first a) s)))
  statement_below n result (While bound test body at) a s =
      more n (expr_calls (typed_value test (with_loop a))) (statement_calls (typed_statement result body (with_loop a))) (expr_below n test false (with_loop a) s) (statement_below n result body (with_loop a) s)
  statement_below n result (Do bound body test at) a s =
      let behind = after body (with_loop a) in
      more n (statement_calls (typed_statement result body (with_loop a))) (expr_calls (typed_value test behind)) (statement_below n result body (with_loop a) s)
      (expr_below n test false behind (moved n a behind (kept.statement body (with_loop a)) s))
  statement_below n result (For bound start test step body at) a s =
      let within = within_for start a in
      let inner : Safe n within.outline = moved n a within (kept.start start (with_loop (entered a))) s in
      let head = start_calls (typed_start start (with_loop (entered a))) in
      let tests = option_calls (typed_option test within) in
      let steps = option_calls (typed_option step within) in
      let turns = statement_calls (typed_statement result body within) in
      more n head (tests ++ (steps ++ turns)) (start_below n start (with_loop (entered a)) s)
      (more n tests (steps ++ turns) (option_below n test within inner) (more n steps turns (option_below n step within inner) (statement_below n result body within inner)))
  statement_below n result (Switch test items at) a s =
      let kind = promoted (kind_of test a) in
      more n (expr_calls (value_at kind test a)) (items_calls (typed_items result items (entered a) typed.NoItem)) (value_below n kind test a s) (items_below n result items (entered a) typed.NoItem s (none n))
  statement_below n result (Break at) a s = none n
  statement_below n result (Continue at) a s = none n
  statement_below n result (Return value at) a s = option_at_below n result value a s

  items_below : (n : ℕ) (result : Kind) (items : Items ℕ) (a : Around) (rest : typed.Items) → Safe n a.outline → Below n (items_calls rest) → Below n (items_calls (typed_items result items a rest))
  items_below n result NoItem a rest s h = h
  items_below n result (AndDeclaration front d) a rest s h =
      let now = after_items front a in
      items_below n result front a (typed.WithDeclaration (typed_declaration d now) rest) s
      (more n (declaration_calls (typed_declaration d now)) (items_calls rest) (declaration_below n d now (moved n a now (kept.list front a) s)) h)
  items_below n result (AndStatement front t) a rest s h =
      let now = after_items front a in
      items_below n result front a (typed.WithStatement (typed_statement result t now) rest) s
      (more n (statement_calls (typed_statement result t now)) (items_calls rest) (statement_below n result t now (moved n a now (kept.list front a) s)) h)
  items_below n result (AndRestriction front pragma) a rest s h = items_below n result front a (typed.WithRestriction pragma rest) s h
  items_below n result (AndLabel front label) a rest s h =
      let now = after_items front a in
      items_below n result front a (typed.WithLabel (typed_label label now) rest) s
      (more n (label_calls (typed_label label now)) (items_calls rest) (label_below n label now (moved n a now (kept.list front a) s)) h)

-- the calls of functions before others
pub functions_below : (n : ℕ) (items : Row (External ℕ)) (a : Around) (rest : List typed.Function) → Safe n a.outline → All (λ f. Below n (function_calls f)) rest → All (λ f. Below n (function_calls f)) (typed_row after_external typed_function items a rest)
functions_below n Nothing a rest s h = h
functions_below n (Then front (Restriction pragma)) a rest s h = functions_below n front a rest s h
functions_below n (Then front (Declaring d)) a rest s h = functions_below n front a rest s h
functions_below n (Then front (Function specifiers name name_at params body body_at at)) a rest s h =
    let now = after_row after_external front a in
    let within = within_function specifiers name params now in
    let inside = body_around specifiers name params now in
    let at_now : Safe n now.outline = moved n a now (kept.row after_external kept.external front a) s in
    let heads = params_calls (typed_params params within) in
    let items = typed_items (kind_spelled specifiers) body inside typed.NoItem in
    functions_below n front a (typed.Defined specifiers name name_at (typed_params params within) (length now.variables) items body_at at ∷ rest) s
    (All-cons (λ f. Below n (function_calls f)) (typed.Defined specifiers name name_at (typed_params params within) (length now.variables) items body_at at) rest
    (more n heads (items_calls items) (params_below n params within [] at_now (none n)) (items_below n (kind_spelled specifiers) body inside typed.NoItem (moved n now inside (kept.body specifiers name params now) at_now) (none n)))
    h)
