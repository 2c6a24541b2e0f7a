-- Expressions at which no rule fails fit the layout.
use Rattle.std.proofs.Common.{◌≡◌, inl, inr, refl, ap, ◌∙◌, sym, subst, ℕ, ◌+◌, ◌<◌, ◌≤◌, suc, Bool, true, false, if◌then◌else◌, List, [], ◌∷◌, ◌++◌, drop, length, Option, Some, None, nat_eq, arith, add-one, le_of_eq}
use Rattle.std.specs.Prelude.{◌&&◌, not, slice_get}
use Rattle.std.proofs.lemmas.Bool.{and_parts, eqb-true, false≢true, not-false, true≢false}
use Rattle.std.proofs.lemmas.Option.{none-some, slice_get-get_or}
use Rattle.c_tree.specs.Tree.{Expr, Number, Character, Name, Paren, Index, Call, Postfix, Prefix, Cast, Binary, Conditional, Assign, Exprs, NoExpr, AndExpr}
use Rattle.c_tree.specs.declared.expression.AssignOperator.{AssignOperator}
use Rattle.c_tree.specs.declared.expression.BinaryOperator.{BinaryOperator}
use Rattle.c_tree.specs.declared.expression.BinaryOperator.TheVariants as binary
use Rattle.c_tree.specs.declared.expression.PostfixOperator.{PostfixOperator}
use Rattle.c_tree.specs.declared.expression.PrefixOperator.{PrefixOperator}
use Rattle.c_tree.specs.declared.expression.PrefixOperator.TheVariants as prefix
use Rattle.types_tree.specs.Tree as typed
use Rattle.types_tree.specs.declared.expression.Callee.{Callee}
use Rattle.types_tree.specs.declared.expression.Callee.TheVariants.{Getchar, Putchar, Function as Own}
use Rattle.types_value.specs.Kinds.{promoted, same_kind}
use Rattle.types_value.specs.declared.kind.Kind.{Kind as CType}
use Rattle.types_value.specs.declared.kind.Kind.TheVariants.{Int}
use Rattle.types_value.specs.declared.operator.Operator.{Operator}
use Rattle.types_value.specs.declared.operator.Operator.TheVariants as operators
use Rattle.types_value.specs.declared.operator.Sign.{Sign}
use Rattle.types_calls.specs.Calls.{called, expr_calls, exprs_calls, place_calls}
use Rattle.types_calls.specs.Chains.{Among}
use Rattle.types_rules.specs.ExpressionRules.{is_place, is_step}
use Rattle.types_rules.specs.Operations.{left_kind, operator_of, right_kind, sign_of, update_of}
use Rattle.types_rules.specs.Scope.{Around, found, params_of, result_of, routine_of}
use Rattle.types_rules.specs.Sights.{SeenExpr, argument_nodes, expr_nodes}
use Rattle.types_rules.specs.Specifiers.{kind_spelled}
use Rattle.types_rules.specs.Types.{any_void, argument_fits, arguments_fit, breaks_call, callee, calls_rightly, cast_kind, count, has_definition, is_array_argument, is_callable, is_undefined, kind_of, or_int, binary_kind, prefix_kind, routine_bound, takes_array}
use Rattle.types_rules.specs.Typing.{argument_of, callee_of, converted, operated, place_in, typed_arguments, typed_assign, typed_binary, typed_expr, typed_prefix}
use Rattle.types_rules.specs.declared.scope.Binding.{Binding}
use Rattle.types_rules.specs.declared.scope.Binding.TheVariants.{Object as Thing, Function as Routine}
use Rattle.types_rules.specs.declared.scope.ParamType.{ParamType}
use Rattle.types_rules.specs.declared.scope.Routine.{Routine as Signature}
use Rattle.plan_definition.specs.Operators as plan
use Rattle.plan_definition.specs.Values.{array_named}
use Rattle.plan_runs.specs.ExpressionFits.{Fit, FitArguments, FitPlace, Formal, OfArray, Function, IsCallable, Signatures, Suits, call_kind, place_constant, place_kind, range_of}
use Rattle.plan_runs.specs.Meets.{Layout}
use Rattle.plan_served.specs.Seen.{Callable, IsKnown, IsSeen, Knows, Sees, formal_by, formals}
use Rattle.types_seen.proofs.Rules.{NoFault, faultless_first, faultless_second, keeps_rules, parts_keep}
use Rattle.plan_served.proofs.Widths.{conditional-Word, constant-Word, or_int-kind, sign-Word, value-Word}
use Rattle.types_seen.proofs.KindNumbers.{same_types}
use Rattle.plan_served.proofs.Names.{IsArrayHere, among-second, type_by, IsScalarHere, array_argument, array_here, calls_first, calls_second, drop_at_item, scalar_here, seen_by}

-- of a value of this type
abbrev RangeIs : Layout → Signatures → typed.Expr → CType → Type 0
RangeIs layout signatures e k = Suits (range_of layout signatures e) (plan.kind_of k)

is_step-sign : (operator : PrefixOperator) → sign_of operator ≡ None → is_step operator ≡ true
is_step-sign prefix.Increment e = refl
is_step-sign prefix.Decrement e = refl
is_step-sign prefix.Negate e = absurd (none-some _ (sym e))
is_step-sign prefix.Plus e = absurd (none-some _ (sym e))
is_step-sign prefix.Complement e = absurd (none-some _ (sym e))
is_step-sign prefix.Not e = absurd (none-some _ (sym e))

-- calls within a value that is converted
pub calls_converted : (f : Function) (from to : CType) (e : typed.Expr) → Callable f (expr_calls (converted from to e)) → Callable f (expr_calls e)
calls_converted f from to e = of (same_kind from to)
  where
    of : (b : Bool) → Callable f (expr_calls (if b then e else typed.Convert to e)) → Callable f (expr_calls e)
    of true c = c
    of false c = c

module _ (layout : Layout) (signatures : Signatures) (f : Function) where
  abbrev IsFit : typed.Expr → Type 0
  IsFit e = Fit layout signatures f e

  pub fit_converted : (from to : CType) (e : typed.Expr) → IsFit e → IsFit (converted from to e)
  fit_converted from to e h = of (same_kind from to)
    where
      of : (b : Bool) → IsFit (if b then e else typed.Convert to e)
      of true = h
      of false = h

  pub range_converted : (from to : CType) (e : typed.Expr) → RangeIs layout signatures e from → RangeIs layout signatures (converted from to e) to
  range_converted from to e h = of (same_kind from to) refl
    where
      of : (b : Bool) → same_kind from to ≡ b → RangeIs layout signatures (if b then e else typed.Convert to e) to
      of true same = subst (λ k. RangeIs layout signatures e k) (same_types from to same) h
      of false same = inr refl

  -- what fits is no array
  no_array_named : (e : typed.Expr) → IsFit e → array_named e ≡ None
  no_array_named (typed.Number constant at) h = refl
  no_array_named (typed.Character value at) h = refl
  no_array_named (typed.Read place) h = refl
  no_array_named (typed.Array object at) h = absurd h
  no_array_named (typed.Paren inner at) h = refl
  no_array_named (typed.Call callee arguments at) h = refl
  no_array_named (typed.Step fix operator kind target at) h = refl
  no_array_named (typed.Signed operator kind operand at) h = refl
  no_array_named (typed.Cast specifiers to operand at) h = refl
  no_array_named (typed.Convert to operand) h = refl
  no_array_named (typed.Operate operator kind left right at) h = refl
  no_array_named (typed.And left right at) h = refl
  no_array_named (typed.Or left right at) h = refl
  no_array_named (typed.Comma left right at) h = refl
  no_array_named (typed.Conditional test first second at) h = refl
  no_array_named (typed.Assign target value at) h = refl
  no_array_named (typed.Update operator kind to target value at) h = refl

  -- a place of this type that may be written
  pub record IsWritten (place : typed.Place) (kind : CType) : Type 0 where
    pub kind_is : plan.kind_of kind ≡ place_kind layout place
    pub stores : place_constant layout place ≡ false

  fit_step : (place : typed.Place) (kind : CType) → FitPlace layout signatures f place → IsWritten place kind → FitPlace layout signatures f place × (plan.kind_of kind ≡ place_kind layout place) × (place_constant layout place ≡ false)
  fit_step place kind fit w = (fit, w.kind_is, w.stores)

  fit_prefix : (sign : Option Sign) (operator : PrefixOperator) (kind : CType) (e : typed.Expr) (at : ℕ) → Callable f (expr_calls (typed_prefix sign operator kind e at)) → (sign ≡ None → Callable f (place_calls (place_in e)) → FitPlace layout signatures f (place_in e)) → (sign ≡ None → IsWritten (place_in e) kind) → (Callable f (expr_calls e) → IsFit e) → IsFit (typed_prefix sign operator kind e at)
  fit_prefix None operator kind e at c place written value = fit_step (place_in e) kind (place refl c) (written refl)
  fit_prefix (Some sign) operator kind e at c place written value = fit_converted kind (promoted kind) e (value (calls_converted f kind (promoted kind) e c))

  range_prefix : (sign : Option Sign) (operator : PrefixOperator) (kind : CType) (e : typed.Expr) (at : ℕ) → (sign ≡ None → IsWritten (place_in e) kind) → RangeIs layout signatures (typed_prefix sign operator kind e at) (prefix_kind sign kind)
  range_prefix None operator kind e at written = inr (or_int-kind kind ∙ (written refl).kind_is)
  range_prefix (Some sign) operator kind e at written = inl (sign-Word sign kind)

  fit_operated : (operator : Option Operator) (a b : CType) (left right : typed.Expr) (at : ℕ) → Callable f (expr_calls (operated operator a b left right at)) → (Callable f (expr_calls left) → IsFit left) → (Callable f (expr_calls right) → IsFit right) → IsFit (operated operator a b left right at)
  fit_operated None a b left right at c l r = (l (calls_first f (expr_calls left) (expr_calls right) c), r (calls_second f (expr_calls left) (expr_calls right) c))
  fit_operated (Some operator) a b left right at c l r =
      let one = converted a (left_kind operator a b) left in
      let two = converted b (right_kind operator a b) right in (
        fit_converted a (left_kind operator a b) left (l (calls_converted f a (left_kind operator a b) left (calls_first f (expr_calls one) (expr_calls two) c))),
        fit_converted b (right_kind operator a b) right (r (calls_converted f b (right_kind operator a b) right (calls_second f (expr_calls one) (expr_calls two) c))),
      )

  fit_binary : (operator : BinaryOperator) (a b : CType) (left right : typed.Expr) (at : ℕ) → Callable f (expr_calls (typed_binary operator a b left right at)) → (Callable f (expr_calls left) → IsFit left) → (Callable f (expr_calls right) → IsFit right) → IsFit (typed_binary operator a b left right at)
  fit_binary binary.Multiply a b left right at c l r = fit_operated (operator_of binary.Multiply) a b left right at c l r
  fit_binary binary.Divide a b left right at c l r = fit_operated (operator_of binary.Divide) a b left right at c l r
  fit_binary binary.Remainder a b left right at c l r = fit_operated (operator_of binary.Remainder) a b left right at c l r
  fit_binary binary.Add a b left right at c l r = fit_operated (operator_of binary.Add) a b left right at c l r
  fit_binary binary.Subtract a b left right at c l r = fit_operated (operator_of binary.Subtract) a b left right at c l r
  fit_binary binary.ShiftLeft a b left right at c l r = fit_operated (operator_of binary.ShiftLeft) a b left right at c l r
  fit_binary binary.ShiftRight a b left right at c l r = fit_operated (operator_of binary.ShiftRight) a b left right at c l r
  fit_binary binary.Less a b left right at c l r = fit_operated (operator_of binary.Less) a b left right at c l r
  fit_binary binary.Greater a b left right at c l r = fit_operated (operator_of binary.Greater) a b left right at c l r
  fit_binary binary.LessEqual a b left right at c l r = fit_operated (operator_of binary.LessEqual) a b left right at c l r
  fit_binary binary.GreaterEqual a b left right at c l r = fit_operated (operator_of binary.GreaterEqual) a b left right at c l r
  fit_binary binary.Equal a b left right at c l r = fit_operated (operator_of binary.Equal) a b left right at c l r
  fit_binary binary.NotEqual a b left right at c l r = fit_operated (operator_of binary.NotEqual) a b left right at c l r
  fit_binary binary.BitAnd a b left right at c l r = fit_operated (operator_of binary.BitAnd) a b left right at c l r
  fit_binary binary.BitXor a b left right at c l r = fit_operated (operator_of binary.BitXor) a b left right at c l r
  fit_binary binary.BitOr a b left right at c l r = fit_operated (operator_of binary.BitOr) a b left right at c l r
  fit_binary binary.Comma a b left right at c l r = fit_operated (operator_of binary.Comma) a b left right at c l r
  fit_binary binary.And a b left right at c l r = (l (calls_first f (expr_calls left) (expr_calls right) c), r (calls_second f (expr_calls left) (expr_calls right) c))
  fit_binary binary.Or a b left right at c l r = (l (calls_first f (expr_calls left) (expr_calls right) c), r (calls_second f (expr_calls left) (expr_calls right) c))

  range_binary : (operator : BinaryOperator) (a b : CType) (left right : typed.Expr) (at : ℕ) → RangeIs layout signatures right b → RangeIs layout signatures (typed_binary operator a b left right at) (binary_kind operator a b)
  range_binary binary.Multiply a b left right at h = inl (value-Word operators.Multiply a b)
  range_binary binary.Divide a b left right at h = inl (value-Word operators.Divide a b)
  range_binary binary.Remainder a b left right at h = inl (value-Word operators.Remainder a b)
  range_binary binary.Add a b left right at h = inl (value-Word operators.Add a b)
  range_binary binary.Subtract a b left right at h = inl (value-Word operators.Subtract a b)
  range_binary binary.ShiftLeft a b left right at h = inl (value-Word operators.ShiftLeft a b)
  range_binary binary.ShiftRight a b left right at h = inl (value-Word operators.ShiftRight a b)
  range_binary binary.Less a b left right at h = inl (value-Word operators.Less a b)
  range_binary binary.Greater a b left right at h = inl (value-Word operators.Greater a b)
  range_binary binary.LessEqual a b left right at h = inl (value-Word operators.LessEqual a b)
  range_binary binary.GreaterEqual a b left right at h = inl (value-Word operators.GreaterEqual a b)
  range_binary binary.Equal a b left right at h = inl (value-Word operators.Equal a b)
  range_binary binary.NotEqual a b left right at h = inl (value-Word operators.NotEqual a b)
  range_binary binary.BitAnd a b left right at h = inl (value-Word operators.BitAnd a b)
  range_binary binary.BitXor a b left right at h = inl (value-Word operators.BitXor a b)
  range_binary binary.BitOr a b left right at h = inl (value-Word operators.BitOr a b)
  range_binary binary.And a b left right at h = inl refl
  range_binary binary.Or a b left right at h = inl refl
  range_binary binary.Comma a b left right at h = h

  fit_assign : (operator : Option Operator) (to from : CType) (place : typed.Place) (value : typed.Expr) (at : ℕ) → Callable f (expr_calls (typed_assign operator to from place value at)) → (Callable f (place_calls place) → FitPlace layout signatures f place) → IsWritten place to → (Callable f (expr_calls value) → IsFit value) → RangeIs layout signatures value from → IsFit (typed_assign operator to from place value at)
  fit_assign None to from place value at c p w v range =
      let right = converted from to value in (
        p (calls_first f (place_calls place) (expr_calls right) c),
        fit_converted from to value (v (calls_converted f from to value (calls_second f (place_calls place) (expr_calls right) c))),
        subst (Suits (range_of layout signatures right)) w.kind_is (range_converted from to value range),
        w.stores,
      )
  fit_assign (Some operator) to from place value at c p w v range =
      let right = converted from (right_kind operator to from) value in (
        p (calls_first f (place_calls place) (expr_calls right) c),
        fit_converted from (right_kind operator to from) value (v (calls_converted f from (right_kind operator to from) value (calls_second f (place_calls place) (expr_calls right) c))),
        w.kind_is,
        w.stores,
      )

  range_assign : (operator : Option Operator) (to from : CType) (place : typed.Place) (value : typed.Expr) (at : ℕ) → IsWritten place to → RangeIs layout signatures (typed_assign operator to from place value at) (or_int to)
  range_assign None to from place value at w = inr (or_int-kind to ∙ w.kind_is)
  range_assign (Some operator) to from place value at w = inr (or_int-kind to ∙ w.kind_is)

  callee_callable : (c : Callee) → Callable f (called c) → IsCallable f c
  callee_callable Getchar h = tt
  callee_callable Putchar h = tt
  callee_callable (Own function) h = h function.0 (inl refl)

step_place : (step place : Bool) → (step && not place) ≡ false → step ≡ true → place ≡ true
step_place true true h e = refl
step_place true false h e = absurd (true≢false h)
step_place false place h e = absurd (false≢true e)

-- at a place of the source, where these names are seen
module _ (layout : Layout) (signatures : Signatures) (f : Function) (a : Around) (sees : Sees layout f a) (knows : Knows signatures a) where
  named : (name : ℕ) (b : Binding) → found name a ≡ Some b → IsSeen layout f b
  named name b e = seen_by layout f a sees name b e

  name_is : (name at : ℕ) → NoFault (expr_nodes (Name name at) false a) → IsScalarHere layout f (found name a)
  name_is name at h =
      let k = keeps_rules (Name name at) false a [] h in
      scalar_here layout f (found name a) (named name) k.declared k.array k.call

  array_is : (array : ℕ) (index : Expr ℕ) (at : ℕ) → NoFault (expr_nodes (Index array index at) false a) → IsArrayHere layout f (found array a)
  array_is array index at h =
      let k = keeps_rules (Index array index at) false a (expr_nodes index false a) h in
      array_here layout f (found array a) (named array) k.declared k.array

  abbrev Written : Expr ℕ → Type 0
  Written e = IsWritten layout signatures f (place_in (typed_expr e false a)) (kind_of e a)

  written : (e : Expr ℕ) → is_place e a ≡ true → NoFault (expr_nodes e false a) → Written e
  written (Name name at) h n = let s = name_is name at n in record { kind_is = sym s.kind_is; stores = s.stores h }
  written (Index array index at) h n = let s = array_is array index at n in record { kind_is = sym s.kind_is; stores = s.stores h }
  written (Paren inner at) h n =
      let w = written inner h (parts_keep (SeenExpr (Paren inner at) false a) (expr_nodes inner false a) n) in
      record { kind_is = w.kind_is; stores = w.stores }
  written (Number constant at) h n = absurd (false≢true h)
  written (Character value at) h n = absurd (false≢true h)
  written (Call function arguments at) h n = absurd (false≢true h)
  written (Postfix operator operand at) h n = absurd (false≢true h)
  written (Prefix operator operand at) h n = absurd (false≢true h)
  written (Cast specifiers operand at) h n = absurd (false≢true h)
  written (Binary operator left right at) h n = absurd (false≢true h)
  written (Conditional test first second at) h n = absurd (false≢true h)
  written (Assign operator target value at) h n = absurd (false≢true h)

  postfix_place : (operator : PostfixOperator) (operand : Expr ℕ) (at : ℕ) → NoFault (expr_nodes (Postfix operator operand at) false a) → is_place operand a ≡ true
  postfix_place operator operand at h = not-false (is_place operand a) (keeps_rules (Postfix operator operand at) false a (expr_nodes operand false a) h).place

  prefix_place : (operator : PrefixOperator) (operand : Expr ℕ) (at : ℕ) → NoFault (expr_nodes (Prefix operator operand at) false a) → sign_of operator ≡ None → is_place operand a ≡ true
  prefix_place operator operand at h e = step_place (is_step operator) (is_place operand a) (keeps_rules (Prefix operator operand at) false a (expr_nodes operand false a) h).place (is_step-sign operator e)

  assign_place : (operator : AssignOperator) (target value : Expr ℕ) (at : ℕ) → NoFault (expr_nodes (Assign operator target value at) false a) → is_place target a ≡ true
  assign_place operator target value at h = not-false (is_place target a) (keeps_rules (Assign operator target value at) false a (expr_nodes target false a ++ expr_nodes value false a) h).place

  -- a call that keeps the rules
  record IsCall (function : ℕ) (arguments : Exprs ℕ) : Type 0 where
    type : Signature
    type_is : callee function a ≡ Some type
    known : IsKnown signatures a.outline function type
    as_many : count arguments ≡ length (params_of (callee function a))
    fits : arguments_fit arguments (params_of (callee function a)) a ≡ true

  call_by : (function : ℕ) (arguments : Exprs ℕ) (binding : Option Binding) → found function a ≡ binding → is_callable binding ≡ true → is_undefined binding function a.outline ≡ false →
      (nat_eq (count arguments) (length (params_of (routine_bound binding function a))) && arguments_fit arguments (params_of (routine_bound binding function a)) a) ≡ true → IsCall function arguments
  call_by function arguments None is callable defined right = absurd (false≢true callable)
  call_by function arguments (Some (Thing number kind const array)) is callable defined right = absurd (false≢true callable)
  call_by function arguments (Some Routine) is callable defined right =
      let t = type_by layout f a sees function is in
      let callee_is : callee function a ≡ routine_of function a = ap (λ b. routine_bound b function a) is in
      let parts = and_parts (nat_eq (count arguments) (length (params_of (routine_of function a)))) (arguments_fit arguments (params_of (routine_of function a)) a) right in
      record {
        type = t.0;
        type_is = callee_is ∙ t.1;
        known = knows.by function t.0 t.1 (not-false (has_definition function a.outline) defined);
        as_many = eqb-true (count arguments) (length (params_of (routine_of function a))) parts.0 ∙ ap (λ o. length (params_of o)) (sym callee_is);
        fits = ap (λ o. arguments_fit arguments (params_of o) a) callee_is ∙ parts.1;
      }

  call_is : (function : ℕ) (arguments : Exprs ℕ) (at : ℕ) → NoFault (expr_nodes (Call function arguments at) false a) → IsCall function arguments
  call_is function arguments at h =
      let k = keeps_rules (Call function arguments at) false a (argument_nodes arguments (params_of (callee function a)) a) h in
      let right = not-false (calls_rightly function arguments a) k.call in
      let fit = nat_eq (count arguments) (length (params_of (callee function a))) && arguments_fit arguments (params_of (callee function a)) a in
      let parts = and_parts (is_callable (found function a)) fit right in
      call_by function arguments (found function a) refl parts.0 k.defined parts.1

  range_call : (function : ℕ) (arguments : Exprs ℕ) (breaks : Bool) → IsCall function arguments → Suits (call_kind signatures (callee_of function a.outline)) (plan.kind_of (if breaks then Int else result_of (callee function a)))
  range_call function arguments true call = inl refl
  range_call function arguments false call = subst (λ o. Suits (call_kind signatures (callee_of function a.outline)) (plan.kind_of (result_of o))) (sym call.type_is) call.known.result_is

  -- a value that an expression has is of the expression's type
  pub range_is : (e : Expr ℕ) → NoFault (expr_nodes e false a) → RangeIs layout signatures (typed_expr e false a) (kind_of e a)
  range_is (Number constant at) h = inl (constant-Word constant.scalar)
  range_is (Character value at) h = inl refl
  range_is (Name name at) h = inr (sym (name_is name at h).kind_is)
  range_is (Paren inner at) h = range_is inner (parts_keep (SeenExpr (Paren inner at) false a) (expr_nodes inner false a) h)
  range_is (Index array index at) h = inr (sym (array_is array index at h).kind_is)
  range_is (Call function arguments at) h = range_call function arguments (breaks_call function arguments (any_void arguments a) a) (call_is function arguments at h)
  range_is (Postfix operator operand at) h =
      let n = parts_keep (SeenExpr (Postfix operator operand at) false a) (expr_nodes operand false a) h in
      inr (or_int-kind (kind_of operand a) ∙ (written operand (postfix_place operator operand at h) n).kind_is)
  range_is (Prefix operator operand at) h =
      let n = parts_keep (SeenExpr (Prefix operator operand at) false a) (expr_nodes operand false a) h in
      range_prefix layout signatures f (sign_of operator) operator (kind_of operand a) (typed_expr operand false a) at (λ e. written operand (prefix_place operator operand at h e) n)
  range_is (Cast specifiers operand at) h =
      let k = keeps_rules (Cast specifiers operand at) false a (expr_nodes operand false a) h in
      subst (λ w. Suits (plan.kind_of (kind_spelled specifiers)) (plan.kind_of (cast_kind w (kind_spelled specifiers)))) (sym k.words) (inr refl)
  range_is (Binary operator left right at) h =
      let n = parts_keep (SeenExpr (Binary operator left right at) false a) (expr_nodes left false a ++ expr_nodes right false a) h in
      range_binary layout signatures f operator (kind_of left a) (kind_of right a) (typed_expr left false a) (typed_expr right false a) at (range_is right (faultless_second (expr_nodes left false a) (expr_nodes right false a) n))
  range_is (Conditional test first second at) h = inl (conditional-Word (kind_of test a) (kind_of first a) (kind_of second a))
  range_is (Assign operator target value at) h =
      let n = parts_keep (SeenExpr (Assign operator target value at) false a) (expr_nodes target false a ++ expr_nodes value false a) h in
      range_assign layout signatures f (update_of operator) (kind_of target a) (kind_of value a) (place_in (typed_expr target false a)) (typed_expr value false a) at
      (written target (assign_place operator target value at h) (faultless_first (expr_nodes target false a) (expr_nodes value false a) n))

  nothing_left : (ps : List ParamType) → FitArguments layout signatures f typed.NoExpr (formals (drop (length ps) ps))
  nothing_left [] = tt
  nothing_left (p ∷ ps) = nothing_left ps

  -- calls among arguments behind others
  arguments_behind : (es : Exprs ℕ) (ps : List ParamType) (rest : typed.Exprs) (g : ℕ) → Among g (exprs_calls rest) → Among g (exprs_calls (typed_arguments es ps a rest))
  arguments_behind NoExpr ps rest g m = m
  arguments_behind (AndExpr front last) ps rest g m =
      let param = slice_get ps (count front) in
      let made = argument_of param (kind_of last a) (typed_expr last (takes_array param) a) in
      arguments_behind front ps (typed.WithExpr made rest) g (among-second g (expr_calls made) (exprs_calls rest) m)

  array_given : (p : ParamType) (last : Expr ℕ) (rest : typed.Exprs) (ds : List Formal) → NoFault (expr_nodes last true a) → is_array_argument last p a ≡ true → FitArguments layout signatures f rest ds → FitArguments layout signatures f (typed.WithExpr (typed_expr last true a) rest) (OfArray (plan.kind_of p.kind) p.is_const ∷ ds)
  array_given p (Name name at) rest ds h is r =
      let k = keeps_rules (Name name at) true a [] h in
      (array_argument layout f p at (found name a) (named name) k.declared is, r)
  array_given p (Number constant at) rest ds h is r = absurd (false≢true is)
  array_given p (Character value at) rest ds h is r = absurd (false≢true is)
  array_given p (Paren inner at) rest ds h is r = absurd (false≢true is)
  array_given p (Index array index at) rest ds h is r = absurd (false≢true is)
  array_given p (Call function arguments at) rest ds h is r = absurd (false≢true is)
  array_given p (Postfix operator operand at) rest ds h is r = absurd (false≢true is)
  array_given p (Prefix operator operand at) rest ds h is r = absurd (false≢true is)
  array_given p (Cast specifiers operand at) rest ds h is r = absurd (false≢true is)
  array_given p (Binary operator left right at) rest ds h is r = absurd (false≢true is)
  array_given p (Conditional test first second at) rest ds h is r = absurd (false≢true is)
  array_given p (Assign operator target value at) rest ds h is r = absurd (false≢true is)

  abbrev argument_by : (array : Bool) → ParamType → Expr ℕ → typed.Expr
  argument_by array p last = if array then typed_expr last array a else converted (kind_of last a) p.kind (typed_expr last array a)

  one_argument : (array : Bool) (p : ParamType) (last : Expr ℕ) (rest : typed.Exprs) (ds : List Formal) → NoFault (expr_nodes last array a) → (if array then is_array_argument last p a else true) ≡ true → Callable f (expr_calls (argument_by array p last)) →
      (NoFault (expr_nodes last false a) → Callable f (expr_calls (typed_expr last false a)) → Fit layout signatures f (typed_expr last false a)) → FitArguments layout signatures f rest ds → FitArguments layout signatures f (typed.WithExpr (argument_by array p last) rest) (formal_by array p ∷ ds)
  one_argument true p last rest ds h is c fit r = array_given p last rest ds h is r
  one_argument false p last rest ds h is c fit r =
      let e = typed_expr last false a in
      let made = fit_converted layout signatures f (kind_of last a) p.kind e (fit h (calls_converted f (kind_of last a) p.kind e c)) in
      (made, no_array_named layout signatures f (converted (kind_of last a) p.kind e) made, range_converted layout signatures f (kind_of last a) p.kind e (range_is last h), r)

  given_argument : (o : Option ParamType) (ps : List ParamType) (n : ℕ) (last : Expr ℕ) (rest : typed.Exprs) → slice_get ps n ≡ o → n < length ps → NoFault (expr_nodes last (takes_array o) a) → argument_fits last o a ≡ true → Callable f (expr_calls (argument_of o (kind_of last a) (typed_expr last (takes_array o) a))) →
      (NoFault (expr_nodes last false a) → Callable f (expr_calls (typed_expr last false a)) → Fit layout signatures f (typed_expr last false a)) → FitArguments layout signatures f rest (formals (drop (n + 1) ps)) →
      FitArguments layout signatures f (typed.WithExpr (argument_of o (kind_of last a) (typed_expr last (takes_array o) a)) rest) (formals (drop n ps))
  given_argument None ps n last rest is lt h fits c fit r = absurd (none-some _ (sym is ∙ slice_get-get_or ps n nothing lt))
    where
      nothing : ParamType
      nothing = record { kind = Int; is_array = false; is_const = false }
  given_argument (Some p) ps n last rest is lt h fits c fit r =
      subst (λ ds. FitArguments layout signatures f (typed.WithExpr (argument_of (Some p) (kind_of last a) (typed_expr last p.is_array a)) rest) (formals ds)) (sym (drop_at_item ps n p is))
      (one_argument p.is_array p last rest (formals (drop (suc n) ps)) h fits c fit (subst (λ k. FitArguments layout signatures f rest (formals (drop k ps))) (add-one n) r))

  mutual
    pub fit_place : (e : Expr ℕ) → is_place e a ≡ true → NoFault (expr_nodes e false a) → Callable f (place_calls (place_in (typed_expr e false a))) → FitPlace layout signatures f (place_in (typed_expr e false a))
    fit_place (Name name at) h n c = (name_is name at n).scalar
    fit_place (Index array index at) h n c =
        ((array_is array index at n).array, fit_expr index (parts_keep (SeenExpr (Index array index at) false a) (expr_nodes index false a) n) c)
    fit_place (Paren inner at) h n c = fit_place inner h (parts_keep (SeenExpr (Paren inner at) false a) (expr_nodes inner false a) n) c
    fit_place (Number constant at) h n c = absurd (false≢true h)
    fit_place (Character value at) h n c = absurd (false≢true h)
    fit_place (Call function arguments at) h n c = absurd (false≢true h)
    fit_place (Postfix operator operand at) h n c = absurd (false≢true h)
    fit_place (Prefix operator operand at) h n c = absurd (false≢true h)
    fit_place (Cast specifiers operand at) h n c = absurd (false≢true h)
    fit_place (Binary operator left right at) h n c = absurd (false≢true h)
    fit_place (Conditional test first second at) h n c = absurd (false≢true h)
    fit_place (Assign operator target value at) h n c = absurd (false≢true h)

    pub fit_expr : (e : Expr ℕ) → NoFault (expr_nodes e false a) → Callable f (expr_calls (typed_expr e false a)) → Fit layout signatures f (typed_expr e false a)
    fit_expr (Number constant at) h c = tt
    fit_expr (Character value at) h c = tt
    fit_expr (Name name at) h c = (name_is name at h).scalar
    fit_expr (Paren inner at) h c = fit_expr inner (parts_keep (SeenExpr (Paren inner at) false a) (expr_nodes inner false a) h) c
    fit_expr (Index array index at) h c =
        ((array_is array index at h).array, fit_expr index (parts_keep (SeenExpr (Index array index at) false a) (expr_nodes index false a) h) c)
    fit_expr (Call function arguments at) h c =
        let call = call_is function arguments at h in
        let ps = params_of (callee function a) in
        let n = parts_keep (SeenExpr (Call function arguments at) false a) (argument_nodes arguments ps a) h in
        let calls = exprs_calls (typed_arguments arguments ps a typed.NoExpr) in (
          subst (FitArguments layout signatures f (typed_arguments arguments ps a typed.NoExpr)) (ap (λ o. formals (params_of o)) call.type_is ∙ sym call.known.parameters_are)
              (fit_arguments arguments ps typed.NoExpr (le_of_eq call.as_many) n call.fits (calls_second f (called (callee_of function a.outline)) calls c)
              (subst (λ k. FitArguments layout signatures f typed.NoExpr (formals (drop k ps))) (sym call.as_many) (nothing_left ps))),
          callee_callable layout signatures f (callee_of function a.outline) (calls_first f (called (callee_of function a.outline)) calls c),
        )
    fit_expr (Postfix operator operand at) h c =
        let n = parts_keep (SeenExpr (Postfix operator operand at) false a) (expr_nodes operand false a) h in
        let is = postfix_place operator operand at h in
        fit_step layout signatures f (place_in (typed_expr operand false a)) (kind_of operand a) (fit_place operand is n c) (written operand is n)
    fit_expr (Prefix operator operand at) h c =
        let n = parts_keep (SeenExpr (Prefix operator operand at) false a) (expr_nodes operand false a) h in
        fit_prefix layout signatures f (sign_of operator) operator (kind_of operand a) (typed_expr operand false a) at c
        (λ e d. fit_place operand (prefix_place operator operand at h e) n d) (λ e. written operand (prefix_place operator operand at h e) n) (λ d. fit_expr operand n d)
    fit_expr (Cast specifiers operand at) h c = fit_expr operand (parts_keep (SeenExpr (Cast specifiers operand at) false a) (expr_nodes operand false a) h) c
    fit_expr (Binary operator left right at) h c =
        let n = parts_keep (SeenExpr (Binary operator left right at) false a) (expr_nodes left false a ++ expr_nodes right false a) h in
        fit_binary layout signatures f operator (kind_of left a) (kind_of right a) (typed_expr left false a) (typed_expr right false a) at c
        (λ d. fit_expr left (faultless_first (expr_nodes left false a) (expr_nodes right false a) n) d) (λ d. fit_expr right (faultless_second (expr_nodes left false a) (expr_nodes right false a) n) d)
    fit_expr (Conditional test first second at) h c =
        let parts = expr_nodes first false a ++ expr_nodes second false a in
        let n = parts_keep (SeenExpr (Conditional test first second at) false a) (expr_nodes test false a ++ parts) h in
        let n2 = faultless_second (expr_nodes test false a) parts n in
        let kind = kind_of (Conditional test first second at) a in
        let one = converted (kind_of first a) kind (typed_expr first false a) in
        let two = converted (kind_of second a) kind (typed_expr second false a) in
        let c2 = calls_second f (expr_calls (typed_expr test false a)) (expr_calls one ++ expr_calls two) c in (
          fit_expr test (faultless_first (expr_nodes test false a) parts n) (calls_first f (expr_calls (typed_expr test false a)) (expr_calls one ++ expr_calls two) c),
          fit_converted layout signatures f (kind_of first a) kind (typed_expr first false a)
              (fit_expr first (faultless_first (expr_nodes first false a) (expr_nodes second false a) n2) (calls_converted f (kind_of first a) kind (typed_expr first false a) (calls_first f (expr_calls one) (expr_calls two) c2))),
          fit_converted layout signatures f (kind_of second a) kind (typed_expr second false a)
              (fit_expr second (faultless_second (expr_nodes first false a) (expr_nodes second false a) n2) (calls_converted f (kind_of second a) kind (typed_expr second false a) (calls_second f (expr_calls one) (expr_calls two) c2))),
        )
    fit_expr (Assign operator target value at) h c =
        let n = parts_keep (SeenExpr (Assign operator target value at) false a) (expr_nodes target false a ++ expr_nodes value false a) h in
        let is = assign_place operator target value at h in
        let first = faultless_first (expr_nodes target false a) (expr_nodes value false a) n in
        let second = faultless_second (expr_nodes target false a) (expr_nodes value false a) n in
        fit_assign layout signatures f (update_of operator) (kind_of target a) (kind_of value a) (place_in (typed_expr target false a)) (typed_expr value false a) at c
        (λ d. fit_place target is first d) (written target is first) (λ d. fit_expr value second d) (range_is value second)

    fit_arguments : (es : Exprs ℕ) (ps : List ParamType) (rest : typed.Exprs) → count es ≤ length ps → NoFault (argument_nodes es ps a) → arguments_fit es ps a ≡ true → Callable f (exprs_calls (typed_arguments es ps a rest)) → FitArguments layout signatures f rest (formals (drop (count es) ps)) →
        FitArguments layout signatures f (typed_arguments es ps a rest) (formals ps)
    fit_arguments NoExpr ps rest le h fits c r = r
    fit_arguments (AndExpr front last) ps rest le h fits c r =
        let param = slice_get ps (count front) in
        let made = argument_of param (kind_of last a) (typed_expr last (takes_array param) a) in
        let parts = and_parts (arguments_fit front ps a) (argument_fits last param a) fits in
        let behind : Callable f (exprs_calls (typed.WithExpr made rest)) = λ g m. c g (arguments_behind front ps (typed.WithExpr made rest) g m) in
        fit_arguments front ps (typed.WithExpr made rest) (omega (arith, le)) (faultless_first (argument_nodes front ps a) (expr_nodes last (takes_array param) a) h) parts.0 c
        (given_argument param ps (count front) last rest refl (omega (arith, le)) (faultless_second (argument_nodes front ps a) (expr_nodes last (takes_array param) a) h) parts.1
        (calls_first f (expr_calls made) (exprs_calls rest) behind) (λ n d. fit_expr last n d) r)
