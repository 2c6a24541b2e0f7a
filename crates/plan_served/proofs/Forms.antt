-- The typed form of a constant expression is a constant.
use Rattle.std.proofs.Common.{◌≡◌, refl, ℕ, Bool, true, false, Option, Some, None, if◌then◌else◌}
use Rattle.std.specs.Prelude.{◌&&◌, not, is_none}
use Rattle.std.proofs.lemmas.Bool.{and_from, true≢false}
use Rattle.std.proofs.lemmas.Option.{none-some}
use Rattle.facts_definitions.specs.Starts.{is_constant}
use Rattle.types_rules.specs.Constants.{binary_constant, cast_constant, chosen_constant, constant_word, folded, of_one, operated_constant, signed_constant, word_in}
use Rattle.types_rules.specs.Operations.{left_kind, operator_of, right_kind, sign_of}
use Rattle.types_rules.specs.Scope.{Around}
use Rattle.types_rules.specs.Specifiers.{kind_spelled}
use Rattle.types_rules.specs.Types.{kind_of}
use Rattle.types_rules.specs.Typing.{converted, operated, typed_binary, typed_expr, typed_prefix, value_at}
use Rattle.types_rules.specs.declared.constant.Folded.{Folded}
use Rattle.c_tree.specs.Tree.{Expr, Number, Character, Name, Paren, Index, Call, Postfix, Prefix, Cast, Binary, Conditional, Assign}
use Rattle.c_tree.specs.declared.expression.BinaryOperator.{BinaryOperator}
use Rattle.c_tree.specs.declared.expression.BinaryOperator.TheVariants as binary
use Rattle.c_tree.specs.declared.expression.PrefixOperator.{PrefixOperator}
use Rattle.types_tree.specs.Tree as typed
use Rattle.types_value.specs.Kinds.{is_void, promoted, same_kind}
use Rattle.types_value.specs.declared.kind.Kind.{Kind}
use Rattle.types_value.specs.declared.kind.Kind.TheVariants.{Void, Char, SignedChar, UnsignedChar, Short, UnsignedShort, Int, Unsigned, Long, UnsignedLong}
use Rattle.types_value.specs.declared.operator.Operator.{Operator}
use Rattle.types_value.specs.declared.operator.Sign.{Sign}

converted_form : (from to : Kind) (e : typed.Expr) → is_constant e ≡ true → is_constant (converted from to e) ≡ true
converted_form from to e h = of (same_kind from to)
  where
    of : (b : Bool) → is_constant (if b then e else typed.Convert to e) ≡ true
    of true = h
    of false = h

-- the part that a constant is made of
pub one_part : (P : Type 0) (o : Option Folded) (f : Folded → Option Folded) (k : Folded) → of_one o f ≡ Some k → ((a : Folded) → o ≡ Some a → f a ≡ Some k → P) → P
one_part P None f k e go = absurd (none-some k e)
one_part P (Some a) f k e go = go a refl e

prefix_form : (sign : Option Sign) (operator : PrefixOperator) (kind : Kind) (e : typed.Expr) (at : ℕ) (a k : Folded) → signed_constant sign a ≡ Some k → is_constant e ≡ true → is_constant (typed_prefix sign operator kind e at) ≡ true
prefix_form None operator kind e at a k s h = absurd (none-some k s)
prefix_form (Some sign) operator kind e at a k s h = converted_form kind (promoted kind) e h

cast_form : (to : Kind) (a k : Folded) → cast_constant to a ≡ Some k → not (is_void to) ≡ true
cast_form Void a k e = absurd (none-some k e)
cast_form Char a k e = refl
cast_form SignedChar a k e = refl
cast_form UnsignedChar a k e = refl
cast_form Short a k e = refl
cast_form UnsignedShort a k e = refl
cast_form Int a k e = refl
cast_form Unsigned a k e = refl
cast_form Long a k e = refl
cast_form UnsignedLong a k e = refl

operated_form : (operator : Option Operator) (a b : Kind) (left right : typed.Expr) (at : ℕ) (x y k : Folded) → operated_constant operator x y ≡ Some k → is_constant left ≡ true → is_constant right ≡ true → is_constant (operated operator a b left right at) ≡ true
operated_form None a b left right at x y k e l r = absurd (none-some k e)
operated_form (Some operator) a b left right at x y k e l r =
    and_from (is_constant (converted a (left_kind operator a b) left)) (is_constant (converted b (right_kind operator a b) right)) (converted_form a (left_kind operator a b) left l) (converted_form b (right_kind operator a b) right r)

binary_form : (operator : BinaryOperator) (a b : Kind) (left right : typed.Expr) (at : ℕ) (x y k : Folded) → binary_constant operator x y ≡ Some k → is_constant left ≡ true → is_constant right ≡ true → is_constant (typed_binary operator a b left right at) ≡ true
binary_form binary.And a b left right at x y k e l r = and_from (is_constant left) (is_constant right) l r
binary_form binary.Or a b left right at x y k e l r = and_from (is_constant left) (is_constant right) l r
binary_form binary.Multiply a b left right at x y k e l r = operated_form (operator_of binary.Multiply) a b left right at x y k e l r
binary_form binary.Divide a b left right at x y k e l r = operated_form (operator_of binary.Divide) a b left right at x y k e l r
binary_form binary.Remainder a b left right at x y k e l r = operated_form (operator_of binary.Remainder) a b left right at x y k e l r
binary_form binary.Add a b left right at x y k e l r = operated_form (operator_of binary.Add) a b left right at x y k e l r
binary_form binary.Subtract a b left right at x y k e l r = operated_form (operator_of binary.Subtract) a b left right at x y k e l r
binary_form binary.ShiftLeft a b left right at x y k e l r = operated_form (operator_of binary.ShiftLeft) a b left right at x y k e l r
binary_form binary.ShiftRight a b left right at x y k e l r = operated_form (operator_of binary.ShiftRight) a b left right at x y k e l r
binary_form binary.Less a b left right at x y k e l r = operated_form (operator_of binary.Less) a b left right at x y k e l r
binary_form binary.Greater a b left right at x y k e l r = operated_form (operator_of binary.Greater) a b left right at x y k e l r
binary_form binary.LessEqual a b left right at x y k e l r = operated_form (operator_of binary.LessEqual) a b left right at x y k e l r
binary_form binary.GreaterEqual a b left right at x y k e l r = operated_form (operator_of binary.GreaterEqual) a b left right at x y k e l r
binary_form binary.Equal a b left right at x y k e l r = operated_form (operator_of binary.Equal) a b left right at x y k e l r
binary_form binary.NotEqual a b left right at x y k e l r = operated_form (operator_of binary.NotEqual) a b left right at x y k e l r
binary_form binary.BitAnd a b left right at x y k e l r = operated_form (operator_of binary.BitAnd) a b left right at x y k e l r
binary_form binary.BitXor a b left right at x y k e l r = operated_form (operator_of binary.BitXor) a b left right at x y k e l r
binary_form binary.BitOr a b left right at x y k e l r = operated_form (operator_of binary.BitOr) a b left right at x y k e l r
binary_form binary.Comma a b left right at x y k e l r = operated_form (operator_of binary.Comma) a b left right at x y k e l r

pub folded_form : (e : Expr ℕ) (a : Around) (k : Folded) → folded e ≡ Some k → is_constant (typed_expr e false a) ≡ true
folded_form (Number constant at) a k e = refl
folded_form (Character value at) a k e = refl
folded_form (Name name at) a k e = absurd (none-some k e)
folded_form (Paren inner at) a k e = folded_form inner a k e
folded_form (Index array index at) a k e = absurd (none-some k e)
folded_form (Call function arguments at) a k e = absurd (none-some k e)
folded_form (Postfix operator operand at) a k e = absurd (none-some k e)
folded_form (Prefix operator operand at) a k e =
    one_part (is_constant (typed_prefix (sign_of operator) operator (kind_of operand a) (typed_expr operand false a) at) ≡ true) (folded operand) (signed_constant (sign_of operator)) k e
    (λ x is s. prefix_form (sign_of operator) operator (kind_of operand a) (typed_expr operand false a) at x k s (folded_form operand a x is))
folded_form (Cast specifiers operand at) a k e =
    one_part (is_constant (typed_expr (Cast specifiers operand at) false a) ≡ true) (folded operand) (cast_constant (kind_spelled specifiers)) k e
    (λ x is s. and_from (not (is_void (kind_spelled specifiers))) (is_constant (typed_expr operand false a)) (cast_form (kind_spelled specifiers) x k s) (folded_form operand a x is))
folded_form (Binary operator left right at) a k e =
    one_part (is_constant (typed_expr (Binary operator left right at) false a) ≡ true) (folded left) (λ x. of_one (folded right) (binary_constant operator x)) k e
    (λ x is_left s. one_part (is_constant (typed_expr (Binary operator left right at) false a) ≡ true) (folded right) (binary_constant operator x) k s
    (λ y is_right r. binary_form operator (kind_of left a) (kind_of right a) (typed_expr left false a) (typed_expr right false a) at x y k r (folded_form left a x is_left) (folded_form right a y is_right)))
folded_form (Conditional test first second at) a k e =
    let kind = kind_of (Conditional test first second at) a in
    let one = converted (kind_of first a) kind (typed_expr first false a) in
    let two = converted (kind_of second a) kind (typed_expr second false a) in
    one_part (is_constant (typed_expr (Conditional test first second at) false a) ≡ true) (folded test) (λ x. of_one (folded first) (λ y. of_one (folded second) (chosen_constant x y))) k e
    (λ x is_test s. one_part (is_constant (typed_expr (Conditional test first second at) false a) ≡ true) (folded first) (λ y. of_one (folded second) (chosen_constant x y)) k s
    (λ y is_first r. one_part (is_constant (typed_expr (Conditional test first second at) false a) ≡ true) (folded second) (chosen_constant x y) k r
    (λ z is_second q. and_from (is_constant (typed_expr test false a)) (is_constant one && is_constant two) (folded_form test a x is_test)
    (and_from (is_constant one) (is_constant two) (converted_form (kind_of first a) kind (typed_expr first false a) (folded_form first a y is_first)) (converted_form (kind_of second a) kind (typed_expr second false a) (folded_form second a z is_second))))))
folded_form (Assign operator target value at) a k e = absurd (none-some k e)

-- an initial value of file level is a constant, converted or not
pub value_form : (kind : Kind) (e : Expr ℕ) (a : Around) → is_none (constant_word e) ≡ false → is_constant (value_at kind e a) ≡ true
value_form kind e a h = converted_form (kind_of e a) kind (typed_expr e false a) (of (folded e) refl h)
  where
    of : (o : Option Folded) → folded e ≡ o → is_none (word_in o) ≡ false → is_constant (typed_expr e false a) ≡ true
    of None is h = absurd (true≢false h)
    of (Some k) is h = folded_form e a k is
