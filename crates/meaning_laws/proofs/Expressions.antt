-- The typed form of an expression at which no rule fails fits what is seen there.
use Rattle.std.proofs.Common.{◌≡◌, refl, ap, ◌∙◌, sym, subst, ℕ, ◌+◌, ◌<◌, ◌≤◌, zero, suc, Bool, true, false, if◌then◌else◌, List, [], ◌∷◌, ◌++◌, drop, length, Option, Some, None, nat_eq, arith, add-one, le_of_eq}
use Rattle.std.specs.Prelude.{◌&&◌, not, slice_get}
use Rattle.std.proofs.lemmas.Bool.{and_parts, eqb-true, false≢true, not-false, true≢false}
use Rattle.std.proofs.lemmas.Option.{none-some, same_Some, slice_get-get_or}
use Rattle.c_tree.specs.Tree.{Expr, Number, Character, Name, Paren, Index, Call, Postfix, Prefix, Cast, Binary, Conditional, Assign, Exprs, NoExpr, AndExpr}
use Rattle.c_tree.specs.declared.expression.BinaryOperator.{BinaryOperator}
use Rattle.c_tree.specs.declared.expression.BinaryOperator.TheVariants as binary
use Rattle.c_tree.specs.declared.expression.PrefixOperator.{PrefixOperator}
use Rattle.c_tree.specs.declared.expression.PrefixOperator.TheVariants as prefix
use Rattle.types_tree.specs.Tree as typed
use Rattle.types_tree.specs.declared.expression.Callee.{Callee}
use Rattle.types_tree.specs.declared.expression.Callee.TheVariants.{Getchar, Putchar, Function as Own}
use Rattle.types_tree.specs.declared.variable.Variable.{Variable}
use Rattle.types_value.specs.Kinds.{promoted, same_kind}
use Rattle.types_value.specs.declared.kind.Kind.{Kind}
use Rattle.types_value.specs.declared.kind.Kind.TheVariants.{Int}
use Rattle.types_value.specs.declared.operator.Operator.{Operator}
use Rattle.types_value.specs.declared.operator.Sign.{Sign}
use Rattle.types_rules.specs.ExpressionRules.{is_place, is_step, names_array, names_no_array}
use Rattle.types_rules.specs.Operations.{left_kind, operator_of, right_kind, sign_of, update_of}
use Rattle.types_rules.specs.Scope.{Around, Outline, found, params_of, routine_of}
use Rattle.types_rules.specs.Sights.{SeenExpr, argument_nodes, expr_nodes}
use Rattle.types_rules.specs.Types.{argument_fits, arguments_fit, callee, calls_rightly, count, has_definition, is_array_argument, is_array_for, is_callable, is_undefined, is_unknown, kind_of, routine_bound, takes_array}
use Rattle.types_rules.specs.Typing.{argument_of, callee_of, converted, object_number, operated, place_in, typed_arguments, typed_assign, typed_binary, typed_expr, typed_name, typed_prefix, value_at, values_at}
use Rattle.types_rules.specs.declared.scope.Binding.{Binding}
use Rattle.types_rules.specs.declared.scope.Binding.TheVariants.{Object as Thing, Function as Routine}
use Rattle.types_rules.specs.declared.scope.ParamType.{ParamType}
use Rattle.types_rules.specs.declared.scope.Routine.{Routine as Signature}
use Rattle.types_seen.specs.Seen.{Knows, Sees}
use Rattle.types_seen.proofs.Rules.{NoFault, faultless_first, faultless_second, keeps_rules, parts_keep}
use Rattle.types_seen.proofs.Scopes.{seen_by, type_by}
use Rattle.meaning_laws.specs.Scoped.{Fit, FitAll, FitPlace, IsArgument, IsArrayName, IsObject, Matches, MatchesCall, count_values, takes}

-- an object that a name stands for
abbrev pub IsSeen : List Variable → Binding → Type 0
IsSeen variables (Thing number kind const array) = IsObject variables array number.0
IsSeen variables Routine = Unit {0}

abbrev pub arrays_in : List ParamType → List Bool
arrays_in [] = []
arrays_in (p ∷ ps) = p.is_array ∷ arrays_in ps

-- what is called takes arrays where its type says so
abbrev pub IsKnownAs : List typed.Function → Callee → Signature → Type 0
IsKnownAs functions Getchar r = Unit {0}
IsKnownAs functions Putchar r = Unit {0}
IsKnownAs functions (Own function) r = takes (slice_get functions function.0) ≡ arrays_in r.params

abbrev pub IsKnown : List typed.Function → Outline → (name : ℕ) → Signature → Type 0
IsKnown functions outline name r = IsKnownAs functions (callee_of name outline) r

is_step-sign : (operator : PrefixOperator) → sign_of operator ≡ None → is_step operator ≡ true
is_step-sign prefix.Increment e = refl
is_step-sign prefix.Decrement e = refl
is_step-sign prefix.Negate e = absurd (none-some _ (sym e))
is_step-sign prefix.Plus e = absurd (none-some _ (sym e))
is_step-sign prefix.Complement e = absurd (none-some _ (sym e))
is_step-sign prefix.Not e = absurd (none-some _ (sym e))

step_place : (step place : Bool) → (step && not place) ≡ false → step ≡ true → place ≡ true
step_place true true h e = refl
step_place true false h e = absurd (true≢false h)
step_place false place h e = absurd (false≢true e)

drop_at_item : {A : Type 0} (xs : List A) (n : ℕ) (x : A) → slice_get xs n ≡ Some x → drop n xs ≡ x ∷ drop (suc n) xs
drop_at_item [] n x e = absurd (none-some x e)
drop_at_item (y ∷ xs) zero x e = ap (λ z. z ∷ xs) (same_Some y x e)
drop_at_item (y ∷ xs) (suc n) x e = drop_at_item xs n x e

nothing_left : (ps : List ParamType) → Matches typed.NoExpr (arrays_in (drop (length ps) ps))
nothing_left [] = tt
nothing_left (p ∷ ps) = nothing_left ps

module _ (variables : List Variable) (functions : List typed.Function) where
  abbrev IsFit : typed.Expr → Type 0
  IsFit e = Fit variables functions e

  abbrev IsPlaceFit : typed.Place → Type 0
  IsPlaceFit place = FitPlace variables functions place

  pub converted_fits : (from to : Kind) (e : typed.Expr) → IsFit e → IsFit (converted from to e)
  converted_fits from to e h = of (same_kind from to)
    where
      of : (b : Bool) → IsFit (if b then e else typed.Convert to e)
      of true = h
      of false = h

  prefix_fits : (sign : Option Sign) (operator : PrefixOperator) (kind : Kind) (e : typed.Expr) (at : ℕ) → (sign ≡ None → IsPlaceFit (place_in e)) → IsFit e → IsFit (typed_prefix sign operator kind e at)
  prefix_fits None operator kind e at place h = place refl
  prefix_fits (Some sign) operator kind e at place h = converted_fits kind (promoted kind) e h

  operated_fits : (operator : Option Operator) (a b : Kind) (left right : typed.Expr) (at : ℕ) → IsFit left → IsFit right → IsFit (operated operator a b left right at)
  operated_fits None a b left right at l r = (l, r)
  operated_fits (Some operator) a b left right at l r = (converted_fits a (left_kind operator a b) left l, converted_fits b (right_kind operator a b) right r)

  binary_fits : (operator : BinaryOperator) (a b : Kind) (left right : typed.Expr) (at : ℕ) → IsFit left → IsFit right → IsFit (typed_binary operator a b left right at)
  binary_fits binary.And a b left right at l r = (l, r)
  binary_fits binary.Or a b left right at l r = (l, r)
  binary_fits binary.Multiply a b left right at l r = operated_fits (operator_of binary.Multiply) a b left right at l r
  binary_fits binary.Divide a b left right at l r = operated_fits (operator_of binary.Divide) a b left right at l r
  binary_fits binary.Remainder a b left right at l r = operated_fits (operator_of binary.Remainder) a b left right at l r
  binary_fits binary.Add a b left right at l r = operated_fits (operator_of binary.Add) a b left right at l r
  binary_fits binary.Subtract a b left right at l r = operated_fits (operator_of binary.Subtract) a b left right at l r
  binary_fits binary.ShiftLeft a b left right at l r = operated_fits (operator_of binary.ShiftLeft) a b left right at l r
  binary_fits binary.ShiftRight a b left right at l r = operated_fits (operator_of binary.ShiftRight) a b left right at l r
  binary_fits binary.Less a b left right at l r = operated_fits (operator_of binary.Less) a b left right at l r
  binary_fits binary.Greater a b left right at l r = operated_fits (operator_of binary.Greater) a b left right at l r
  binary_fits binary.LessEqual a b left right at l r = operated_fits (operator_of binary.LessEqual) a b left right at l r
  binary_fits binary.GreaterEqual a b left right at l r = operated_fits (operator_of binary.GreaterEqual) a b left right at l r
  binary_fits binary.Equal a b left right at l r = operated_fits (operator_of binary.Equal) a b left right at l r
  binary_fits binary.NotEqual a b left right at l r = operated_fits (operator_of binary.NotEqual) a b left right at l r
  binary_fits binary.BitAnd a b left right at l r = operated_fits (operator_of binary.BitAnd) a b left right at l r
  binary_fits binary.BitXor a b left right at l r = operated_fits (operator_of binary.BitXor) a b left right at l r
  binary_fits binary.BitOr a b left right at l r = operated_fits (operator_of binary.BitOr) a b left right at l r
  binary_fits binary.Comma a b left right at l r = operated_fits (operator_of binary.Comma) a b left right at l r

  assign_fits : (operator : Option Operator) (to from : Kind) (place : typed.Place) (value : typed.Expr) (at : ℕ) → IsPlaceFit place → IsFit value → IsFit (typed_assign operator to from place value at)
  assign_fits None to from place value at p v = (p, converted_fits from to value v)
  assign_fits (Some operator) to from place value at p v = (p, converted_fits from (right_kind operator to from) value v)

  argument_fit : (o : Option ParamType) (kind : Kind) (e : typed.Expr) → IsFit e → IsFit (argument_of o kind e)
  argument_fit None kind e h = h
  argument_fit (Some p) kind e h = of p.is_array
    where
      of : (b : Bool) → IsFit (if b then e else converted kind p.kind e)
      of true = h
      of false = converted_fits kind p.kind e h

  -- a name that is used as a value, or as an array where one is wanted
  name_fits : (x : Bool) (binding : Option Binding) (at : ℕ) → ((b : Binding) → binding ≡ Some b → IsSeen variables b) → is_unknown binding ≡ false → (not x && names_array binding) ≡ false → is_callable binding ≡ false → IsFit (typed_name x binding at)
  name_fits x None at seen known array call = absurd (true≢false known)
  name_fits x (Some Routine) at seen known array call = absurd (true≢false call)
  name_fits true (Some (Thing number kind const true)) at seen known array call = seen (Thing number kind const true) refl
  name_fits true (Some (Thing number kind const false)) at seen known array call = seen (Thing number kind const false) refl
  name_fits false (Some (Thing number kind const true)) at seen known array call = absurd (true≢false array)
  name_fits false (Some (Thing number kind const false)) at seen known array call = seen (Thing number kind const false) refl

  array_fits : (binding : Option Binding) → ((b : Binding) → binding ≡ Some b → IsSeen variables b) → is_unknown binding ≡ false → names_no_array binding ≡ false → IsObject variables true (object_number binding)
  array_fits None seen known array = absurd (true≢false known)
  array_fits (Some Routine) seen known array = absurd (true≢false array)
  array_fits (Some (Thing number kind const false)) seen known array = absurd (true≢false array)
  array_fits (Some (Thing number kind const true)) seen known array = seen (Thing number kind const true) refl

  -- at a place of the source, where these names are seen
  module _ (a : Around) (sees : Sees (IsSeen variables) a) (knows : Knows (IsKnown functions) a) where
    named : (name : ℕ) (b : Binding) → found name a ≡ Some b → IsSeen variables b
    named name b e = seen_by (IsSeen variables) a sees name b e

    place_fits : (e : Expr ℕ) → is_place e a ≡ true → IsFit (typed_expr e false a) → IsPlaceFit (place_in (typed_expr e false a))
    place_fits (Name name at) h fit = fit
    place_fits (Index array index at) h fit = fit
    place_fits (Paren inner at) h fit = place_fits inner h fit
    place_fits (Number constant at) h fit = absurd (false≢true h)
    place_fits (Character value at) h fit = absurd (false≢true h)
    place_fits (Call function arguments at) h fit = absurd (false≢true h)
    place_fits (Postfix operator operand at) h fit = absurd (false≢true h)
    place_fits (Prefix operator operand at) h fit = absurd (false≢true h)
    place_fits (Cast specifiers operand at) h fit = absurd (false≢true h)
    place_fits (Binary operator left right at) h fit = absurd (false≢true h)
    place_fits (Conditional test first second at) h fit = absurd (false≢true h)
    place_fits (Assign operator target value at) h fit = absurd (false≢true h)

    -- a call that keeps the rules
    record IsCall (function : ℕ) (arguments : Exprs ℕ) : Type 0 where
      type : Signature
      type_is : callee function a ≡ Some type
      known : IsKnown functions a.outline function type
      as_many : count arguments ≡ length (params_of (callee function a))
      fits : arguments_fit arguments (params_of (callee function a)) a ≡ true

    call_by : (function : ℕ) (arguments : Exprs ℕ) (binding : Option Binding) → found function a ≡ binding → is_callable binding ≡ true → is_undefined binding function a.outline ≡ false →
        (nat_eq (count arguments) (length (params_of (routine_bound binding function a))) && arguments_fit arguments (params_of (routine_bound binding function a)) a) ≡ true → IsCall function arguments
    call_by function arguments None is callable defined right = absurd (false≢true callable)
    call_by function arguments (Some (Thing number kind const array)) is callable defined right = absurd (false≢true callable)
    call_by function arguments (Some Routine) is callable defined right =
        let t = type_by (IsSeen variables) a sees function is in
        let callee_is : callee function a ≡ routine_of function a = ap (λ b. routine_bound b function a) is in
        let parts = and_parts (nat_eq (count arguments) (length (params_of (routine_of function a)))) (arguments_fit arguments (params_of (routine_of function a)) a) right in
        record {
          type = t.0;
          type_is = callee_is ∙ t.1;
          known = knows.by function t.0 t.1 (not-false (has_definition function a.outline) defined);
          as_many = eqb-true (count arguments) (length (params_of (routine_of function a))) parts.0 ∙ ap (λ o. length (params_of o)) (sym callee_is);
          fits = ap (λ o. arguments_fit arguments (params_of o) a) callee_is ∙ parts.1;
        }

    call_is : (function : ℕ) (arguments : Exprs ℕ) (at : ℕ) (x : Bool) → NoFault (expr_nodes (Call function arguments at) x a) → IsCall function arguments
    call_is function arguments at x h =
        let k = keeps_rules (Call function arguments at) x a (argument_nodes arguments (params_of (callee function a)) a) h in
        let right = not-false (calls_rightly function arguments a) k.call in
        let fit = nat_eq (count arguments) (length (params_of (callee function a))) && arguments_fit arguments (params_of (callee function a)) a in
        let parts = and_parts (is_callable (found function a)) fit right in
        call_by function arguments (found function a) refl parts.0 k.defined parts.1

    -- the name of an array for a parameter that is one
    array_given : (p : ParamType) (last : Expr ℕ) → is_array_argument last p a ≡ true → NoFault (expr_nodes last true a) → IsArrayName (typed_expr last true a)
    array_given p (Name name at) is h = of (found name a) (keeps_rules (Name name at) true a [] h).declared is
      where
        of : (binding : Option Binding) → is_unknown binding ≡ false → is_array_for p binding ≡ true → IsArrayName (typed_name true binding at)
        of None known is = absurd (true≢false known)
        of (Some Routine) known is = absurd (false≢true is)
        of (Some (Thing number kind const false)) known is = absurd (false≢true is)
        of (Some (Thing number kind const true)) known is = tt
    array_given p (Number constant at) is h = absurd (false≢true is)
    array_given p (Character value at) is h = absurd (false≢true is)
    array_given p (Paren inner at) is h = absurd (false≢true is)
    array_given p (Index array index at) is h = absurd (false≢true is)
    array_given p (Call function arguments at) is h = absurd (false≢true is)
    array_given p (Postfix operator operand at) is h = absurd (false≢true is)
    array_given p (Prefix operator operand at) is h = absurd (false≢true is)
    array_given p (Cast specifiers operand at) is h = absurd (false≢true is)
    array_given p (Binary operator left right at) is h = absurd (false≢true is)
    array_given p (Conditional test first second at) is h = absurd (false≢true is)
    array_given p (Assign operator target value at) is h = absurd (false≢true is)

    given_by : (array : Bool) (p : ParamType) (last : Expr ℕ) → (if array then is_array_argument last p a else true) ≡ true → NoFault (expr_nodes last array a) → IsArgument array (if array then typed_expr last array a else converted (kind_of last a) p.kind (typed_expr last array a))
    given_by true p last is h = array_given p last is h
    given_by false p last is h = tt

    given : (o : Option ParamType) (ps : List ParamType) (n : ℕ) (last : Expr ℕ) (rest : typed.Exprs) → slice_get ps n ≡ o → n < length ps → NoFault (expr_nodes last (takes_array o) a) → argument_fits last o a ≡ true → Matches rest (arrays_in (drop (n + 1) ps)) →
        Matches (typed.WithExpr (argument_of o (kind_of last a) (typed_expr last (takes_array o) a)) rest) (arrays_in (drop n ps))
    given None ps n last rest is lt h fits m = absurd (none-some _ (sym is ∙ slice_get-get_or ps n nothing lt))
      where
        nothing : ParamType
        nothing = record { kind = Int; is_array = false; is_const = false }
    given (Some p) ps n last rest is lt h fits m =
        let made = argument_of (Some p) (kind_of last a) (typed_expr last p.is_array a) in
        let later : Matches rest (arrays_in (drop (suc n) ps)) = subst (λ k. Matches rest (arrays_in (drop k ps))) (add-one n) m in
        subst (λ ds. Matches (typed.WithExpr made rest) (arrays_in ds)) (sym (drop_at_item ps n p is)) (given_by p.is_array p last fits h, later)

    matches : (es : Exprs ℕ) (ps : List ParamType) (rest : typed.Exprs) → count es ≤ length ps → NoFault (argument_nodes es ps a) → arguments_fit es ps a ≡ true → Matches rest (arrays_in (drop (count es) ps)) → Matches (typed_arguments es ps a rest) (arrays_in ps)
    matches NoExpr ps rest le h fits m = m
    matches (AndExpr front last) ps rest le h fits m =
        let param = slice_get ps (count front) in
        let made = argument_of param (kind_of last a) (typed_expr last (takes_array param) a) in
        let parts = and_parts (arguments_fit front ps a) (argument_fits last param a) fits in
        matches front ps (typed.WithExpr made rest) (omega (arith, le)) (faultless_first (argument_nodes front ps a) (expr_nodes last (takes_array param) a) h) parts.0
        (given param ps (count front) last rest refl (omega (arith, le)) (faultless_second (argument_nodes front ps a) (expr_nodes last (takes_array param) a) h) parts.1 m)

    call_matches : (callee : Callee) (type : Signature) (es : typed.Exprs) → IsKnownAs functions callee type → Matches es (arrays_in type.params) → MatchesCall functions callee es
    call_matches Getchar type es known m = tt
    call_matches Putchar type es known m = tt
    call_matches (Own function) type es known m = subst (Matches es) (sym known) m

    mutual
      pub expr_fits : (e : Expr ℕ) (x : Bool) → NoFault (expr_nodes e x a) → IsFit (typed_expr e x a)
      expr_fits (Number constant at) x h = tt
      expr_fits (Character value at) x h = tt
      expr_fits (Name name at) x h =
          let k = keeps_rules (Name name at) x a [] h in
          name_fits x (found name a) at (named name) k.declared k.array k.call
      expr_fits (Paren inner at) x h = expr_fits inner false (parts_keep (SeenExpr (Paren inner at) x a) (expr_nodes inner false a) h)
      expr_fits (Index array index at) x h =
          let k = keeps_rules (Index array index at) x a (expr_nodes index false a) h in
          (array_fits (found array a) (named array) k.declared k.array, expr_fits index false (parts_keep (SeenExpr (Index array index at) x a) (expr_nodes index false a) h))
      expr_fits (Call function arguments at) x h =
          let call = call_is function arguments at x h in
          let ps = params_of (callee function a) in
          let n = parts_keep (SeenExpr (Call function arguments at) x a) (argument_nodes arguments ps a) h in
          let made = typed_arguments arguments ps a typed.NoExpr in (
            arguments_fits arguments ps typed.NoExpr n tt,
            call_matches (callee_of function a.outline) call.type made call.known (subst (λ o. Matches made (arrays_in (params_of o))) call.type_is
                (matches arguments ps typed.NoExpr (le_of_eq call.as_many) n call.fits (subst (λ k. Matches typed.NoExpr (arrays_in (drop k ps))) (sym call.as_many) (nothing_left ps)))),
          )
      expr_fits (Postfix operator operand at) x h =
          let n = parts_keep (SeenExpr (Postfix operator operand at) x a) (expr_nodes operand false a) h in
          place_fits operand (not-false (is_place operand a) (keeps_rules (Postfix operator operand at) x a (expr_nodes operand false a) h).place) (expr_fits operand false n)
      expr_fits (Prefix operator operand at) x h =
          let n = parts_keep (SeenExpr (Prefix operator operand at) x a) (expr_nodes operand false a) h in
          let fit = expr_fits operand false n in
          prefix_fits (sign_of operator) operator (kind_of operand a) (typed_expr operand false a) at
          (λ e. place_fits operand (step_place (is_step operator) (is_place operand a) (keeps_rules (Prefix operator operand at) x a (expr_nodes operand false a) h).place (is_step-sign operator e)) fit) fit
      expr_fits (Cast specifiers operand at) x h = expr_fits operand false (parts_keep (SeenExpr (Cast specifiers operand at) x a) (expr_nodes operand false a) h)
      expr_fits (Binary operator left right at) x h =
          let n = parts_keep (SeenExpr (Binary operator left right at) x a) (expr_nodes left false a ++ expr_nodes right false a) h in
          binary_fits operator (kind_of left a) (kind_of right a) (typed_expr left false a) (typed_expr right false a) at
          (expr_fits left false (faultless_first (expr_nodes left false a) (expr_nodes right false a) n)) (expr_fits right false (faultless_second (expr_nodes left false a) (expr_nodes right false a) n))
      expr_fits (Conditional test first second at) x h =
          let parts = expr_nodes first false a ++ expr_nodes second false a in
          let n = parts_keep (SeenExpr (Conditional test first second at) x a) (expr_nodes test false a ++ parts) h in
          let n2 = faultless_second (expr_nodes test false a) parts n in
          let kind = kind_of (Conditional test first second at) a in (
            expr_fits test false (faultless_first (expr_nodes test false a) parts n),
            converted_fits (kind_of first a) kind (typed_expr first false a) (expr_fits first false (faultless_first (expr_nodes first false a) (expr_nodes second false a) n2)),
            converted_fits (kind_of second a) kind (typed_expr second false a) (expr_fits second false (faultless_second (expr_nodes first false a) (expr_nodes second false a) n2)),
          )
      expr_fits (Assign operator target value at) x h =
          let n = parts_keep (SeenExpr (Assign operator target value at) x a) (expr_nodes target false a ++ expr_nodes value false a) h in
          let is = not-false (is_place target a) (keeps_rules (Assign operator target value at) x a (expr_nodes target false a ++ expr_nodes value false a) h).place in
          assign_fits (update_of operator) (kind_of target a) (kind_of value a) (place_in (typed_expr target false a)) (typed_expr value false a) at
          (place_fits target is (expr_fits target false (faultless_first (expr_nodes target false a) (expr_nodes value false a) n)))
          (expr_fits value false (faultless_second (expr_nodes target false a) (expr_nodes value false a) n))

      arguments_fits : (es : Exprs ℕ) (ps : List ParamType) (rest : typed.Exprs) → NoFault (argument_nodes es ps a) → FitAll variables functions rest → FitAll variables functions (typed_arguments es ps a rest)
      arguments_fits NoExpr ps rest h r = r
      arguments_fits (AndExpr front last) ps rest h r =
          let param = slice_get ps (count front) in
          let made = argument_of param (kind_of last a) (typed_expr last (takes_array param) a) in
          arguments_fits front ps (typed.WithExpr made rest) (faultless_first (argument_nodes front ps a) (expr_nodes last (takes_array param) a) h)
          (argument_fit param (kind_of last a) (typed_expr last (takes_array param) a) (expr_fits last (takes_array param) (faultless_second (argument_nodes front ps a) (expr_nodes last (takes_array param) a) h)), r)

    pub value_fits : (kind : Kind) (e : Expr ℕ) → NoFault (expr_nodes e false a) → IsFit (value_at kind e a)
    value_fits kind e h = converted_fits (kind_of e a) kind (typed_expr e false a) (expr_fits e false h)

    pub list_fits : (kind : Kind) (es : Exprs ℕ) (rest : typed.Exprs) → NoFault (argument_nodes es [] a) → FitAll variables functions rest → FitAll variables functions (values_at kind es a rest)
    list_fits kind NoExpr rest h r = r
    list_fits kind (AndExpr front last) rest h r =
        list_fits kind front (typed.WithExpr (value_at kind last a) rest) (faultless_first (argument_nodes front [] a) (expr_nodes last false a) h)
        (value_fits kind last (faultless_second (argument_nodes front [] a) (expr_nodes last false a) h), r)

pub count_at : (kind : Kind) (es : Exprs ℕ) (a : Around) (rest : typed.Exprs) → count_values (values_at kind es a rest) ≡ count es + count_values rest
count_at kind NoExpr a rest = omega arith
count_at kind (AndExpr front last) a rest = let h = count_at kind front a (typed.WithExpr (value_at kind last a) rest) in omega (arith, h)
