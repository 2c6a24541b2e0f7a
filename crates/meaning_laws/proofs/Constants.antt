-- The typed form of a constant calls nothing.
use Rattle.std.proofs.Common.{◌≡◌, refl, ap, ◌∙◌, ℕ, Bool, true, false, if◌then◌else◌, List, [], ◌++◌, Option, Some, None}
use Rattle.std.specs.Prelude.{is_none}
use Rattle.std.proofs.lemmas.Bool.{or_parts, true≢false}
use Rattle.std.proofs.lemmas.Option.{none-some}
use Rattle.c_tree.specs.Tree.{Expr, Number, Character, Name, Paren, Index, Call, Postfix, Prefix, Cast, Binary, Conditional, Assign, Exprs, NoExpr, AndExpr}
use Rattle.c_tree.specs.declared.expression.BinaryOperator.{BinaryOperator}
use Rattle.c_tree.specs.declared.expression.BinaryOperator.TheVariants as binary
use Rattle.c_tree.specs.declared.expression.PrefixOperator.{PrefixOperator}
use Rattle.types_calls.specs.Calls.{expr_calls, exprs_calls}
use Rattle.types_tree.specs.Tree as typed
use Rattle.types_value.specs.Kinds.{promoted, same_kind}
use Rattle.types_value.specs.declared.kind.Kind.{Kind}
use Rattle.types_value.specs.declared.operator.Operator.{Operator}
use Rattle.types_value.specs.declared.operator.Sign.{Sign}
use Rattle.types_rules.specs.Constants.{binary_constant, cast_constant, chosen_constant, constant_word, folded, of_one, signed_constant, word_in}
use Rattle.types_rules.specs.DeclarationRules.{any_not_constant}
use Rattle.types_rules.specs.Operations.{left_kind, operator_of, right_kind, sign_of}
use Rattle.types_rules.specs.Scope.{Around}
use Rattle.types_rules.specs.Specifiers.{kind_spelled}
use Rattle.types_rules.specs.Types.{kind_of}
use Rattle.types_rules.specs.Typing.{converted, operated, typed_binary, typed_expr, typed_prefix, value_at, values_at}
use Rattle.types_rules.specs.declared.constant.Folded.{Folded}

abbrev Silent : typed.Expr → Type 0
Silent e = expr_calls e ≡ []

record IsOf (o : Option Folded) (f : Folded → Option Folded) (r : Folded) : Type 0 where
  value : Folded
  there : o ≡ Some value
  gives : f value ≡ Some r

of_some : (o : Option Folded) (f : Folded → Option Folded) (r : Folded) → of_one o f ≡ Some r → IsOf o f r
of_some None f r e = absurd (none-some r e)
of_some (Some x) f r e = record { value = x; there = refl; gives = e }

both : (xs ys : List ℕ) → xs ≡ [] → ys ≡ [] → xs ++ ys ≡ []
both xs ys e f = ap (λ l. l ++ ys) e ∙ f

converted_silent : (from to : Kind) (e : typed.Expr) → Silent e → Silent (converted from to e)
converted_silent from to e h = of (same_kind from to)
  where
    of : (b : Bool) → Silent (if b then e else typed.Convert to e)
    of true = h
    of false = h

prefix_silent : (sign : Option Sign) (operator : PrefixOperator) (kind : Kind) (e : typed.Expr) (at : ℕ) (x r : Folded) → signed_constant sign x ≡ Some r → Silent e → Silent (typed_prefix sign operator kind e at)
prefix_silent None operator kind e at x r is h = absurd (none-some r is)
prefix_silent (Some sign) operator kind e at x r is h = converted_silent kind (promoted kind) e h

operated_silent : (operator : Option Operator) (a b : Kind) (left right : typed.Expr) (at : ℕ) → Silent left → Silent right → Silent (operated operator a b left right at)
operated_silent None a b left right at l r = both (expr_calls left) (expr_calls right) l r
operated_silent (Some operator) a b left right at l r =
    both (expr_calls (converted a (left_kind operator a b) left)) (expr_calls (converted b (right_kind operator a b) right)) (converted_silent a (left_kind operator a b) left l) (converted_silent b (right_kind operator a b) right r)

binary_silent : (operator : BinaryOperator) (a b : Kind) (left right : typed.Expr) (at : ℕ) → Silent left → Silent right → Silent (typed_binary operator a b left right at)
binary_silent binary.And a b left right at l r = both (expr_calls left) (expr_calls right) l r
binary_silent binary.Or a b left right at l r = both (expr_calls left) (expr_calls right) l r
binary_silent binary.Multiply a b left right at l r = operated_silent (operator_of binary.Multiply) a b left right at l r
binary_silent binary.Divide a b left right at l r = operated_silent (operator_of binary.Divide) a b left right at l r
binary_silent binary.Remainder a b left right at l r = operated_silent (operator_of binary.Remainder) a b left right at l r
binary_silent binary.Add a b left right at l r = operated_silent (operator_of binary.Add) a b left right at l r
binary_silent binary.Subtract a b left right at l r = operated_silent (operator_of binary.Subtract) a b left right at l r
binary_silent binary.ShiftLeft a b left right at l r = operated_silent (operator_of binary.ShiftLeft) a b left right at l r
binary_silent binary.ShiftRight a b left right at l r = operated_silent (operator_of binary.ShiftRight) a b left right at l r
binary_silent binary.Less a b left right at l r = operated_silent (operator_of binary.Less) a b left right at l r
binary_silent binary.Greater a b left right at l r = operated_silent (operator_of binary.Greater) a b left right at l r
binary_silent binary.LessEqual a b left right at l r = operated_silent (operator_of binary.LessEqual) a b left right at l r
binary_silent binary.GreaterEqual a b left right at l r = operated_silent (operator_of binary.GreaterEqual) a b left right at l r
binary_silent binary.Equal a b left right at l r = operated_silent (operator_of binary.Equal) a b left right at l r
binary_silent binary.NotEqual a b left right at l r = operated_silent (operator_of binary.NotEqual) a b left right at l r
binary_silent binary.BitAnd a b left right at l r = operated_silent (operator_of binary.BitAnd) a b left right at l r
binary_silent binary.BitXor a b left right at l r = operated_silent (operator_of binary.BitXor) a b left right at l r
binary_silent binary.BitOr a b left right at l r = operated_silent (operator_of binary.BitOr) a b left right at l r
binary_silent binary.Comma a b left right at l r = operated_silent (operator_of binary.Comma) a b left right at l r

folded_silent : (e : Expr ℕ) (x : Bool) (a : Around) (r : Folded) → folded e ≡ Some r → Silent (typed_expr e x a)
folded_silent (Number constant at) x a r is = refl
folded_silent (Character value at) x a r is = refl
folded_silent (Paren inner at) x a r is = folded_silent inner false a r is
folded_silent (Prefix operator operand at) x a r is =
    let o = of_some (folded operand) (signed_constant (sign_of operator)) r is in
    prefix_silent (sign_of operator) operator (kind_of operand a) (typed_expr operand false a) at o.value r o.gives (folded_silent operand false a o.value o.there)
folded_silent (Cast specifiers operand at) x a r is =
    let o = of_some (folded operand) (cast_constant (kind_spelled specifiers)) r is in
    folded_silent operand false a o.value o.there
folded_silent (Binary operator left right at) x a r is =
    let o = of_some (folded left) (λ l. of_one (folded right) (binary_constant operator l)) r is in
    let p = of_some (folded right) (binary_constant operator o.value) r o.gives in
    binary_silent operator (kind_of left a) (kind_of right a) (typed_expr left false a) (typed_expr right false a) at (folded_silent left false a o.value o.there) (folded_silent right false a p.value p.there)
folded_silent (Conditional test first second at) x a r is =
    let o = of_some (folded test) (λ t. of_one (folded first) (λ l. of_one (folded second) (chosen_constant t l))) r is in
    let p = of_some (folded first) (λ l. of_one (folded second) (chosen_constant o.value l)) r o.gives in
    let q = of_some (folded second) (chosen_constant o.value p.value) r p.gives in
    let kind = kind_of (Conditional test first second at) a in
    let one = converted (kind_of first a) kind (typed_expr first false a) in
    let two = converted (kind_of second a) kind (typed_expr second false a) in
    both (expr_calls (typed_expr test false a)) (expr_calls one ++ expr_calls two) (folded_silent test false a o.value o.there)
    (both (expr_calls one) (expr_calls two)
    (converted_silent (kind_of first a) kind (typed_expr first false a) (folded_silent first false a p.value p.there))
    (converted_silent (kind_of second a) kind (typed_expr second false a) (folded_silent second false a q.value q.there)))
folded_silent (Name name at) x a r is = absurd (none-some r is)
folded_silent (Index array index at) x a r is = absurd (none-some r is)
folded_silent (Call function arguments at) x a r is = absurd (none-some r is)
folded_silent (Postfix operator operand at) x a r is = absurd (none-some r is)
folded_silent (Assign operator target value at) x a r is = absurd (none-some r is)

pub constant_silent : (e : Expr ℕ) (a : Around) → is_none (constant_word e) ≡ false → expr_calls (typed_expr e false a) ≡ []
constant_silent e a h = of (folded e) refl h
  where
    of : (o : Option Folded) → folded e ≡ o → is_none (word_in o) ≡ false → Silent (typed_expr e false a)
    of None is h = absurd (true≢false h)
    of (Some r) is h = folded_silent e false a r is

pub value_silent : (kind : Kind) (e : Expr ℕ) (a : Around) → is_none (constant_word e) ≡ false → expr_calls (value_at kind e a) ≡ []
value_silent kind e a h = converted_silent (kind_of e a) kind (typed_expr e false a) (constant_silent e a h)

pub values_silent : (kind : Kind) (es : Exprs ℕ) (a : Around) (rest : typed.Exprs) → any_not_constant es ≡ false → exprs_calls rest ≡ [] → exprs_calls (values_at kind es a rest) ≡ []
values_silent kind NoExpr a rest h r = r
values_silent kind (AndExpr front last) a rest h r =
    let parts = or_parts (any_not_constant front) (is_none (constant_word last)) h in
    values_silent kind front a (typed.WithExpr (value_at kind last a) rest) parts.0 (both (expr_calls (value_at kind last a)) (exprs_calls rest) (value_silent kind last a parts.1) r)
