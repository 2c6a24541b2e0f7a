-- The word of a label is a word where the constants of its expression are.
use Rattle.std.proofs.Common.{ℕ, ◌<◌, ◌^◌, Bool, true, false, Option, Some, None, arith}
use Rattle.std.specs.Prelude.{◌==◌, if◌then◌else◌, Result, Ok, Err}
use Rattle.facts_definitions.specs.Starts as starts
use Rattle.c_tree.specs.Tree.{Expr, Number, Character, Name, Paren, Index, Call, Postfix, Prefix, Cast, Binary, Conditional, Assign}
use Rattle.c_tree.specs.declared.expression.BinaryOperator.{BinaryOperator}
use Rattle.c_tree.specs.declared.expression.BinaryOperator.TheVariants as binary
use Rattle.types_value.specs.Kinds.{common, converted, promoted}
use Rattle.types_value.specs.Operators.{computed, signed_by}
use Rattle.types_value.specs.declared.kind.Kind.{Kind}
use Rattle.types_value.specs.declared.kind.Kind.TheVariants as types
use Rattle.types_value.specs.declared.operator.Operator.{Operator}
use Rattle.types_value.specs.declared.operator.Sign.{Sign}
use Rattle.types_value.specs.declared.operator.Undefined.{Undefined}
use Rattle.types_rules.specs.Constants.{binary_constant, cast_constant, chosen_constant, constant_word, defined_word, folded, of_one, operated_constant, signed_constant, truth_of, with_word, word_in}
use Rattle.types_rules.specs.Operations.{left_kind, operator_of, right_kind, sign_of}
use Rattle.types_rules.specs.Scope.{or_zero}
use Rattle.types_rules.specs.Specifiers.{kind_spelled}
use Rattle.types_rules.specs.declared.constant.Folded.{Folded}
use Rattle.plan_law.proofs.Constants.{BelowIn, computed_below, converted_below, either_below, signed_below}
use Rattle.compile_high_law.specs.Trees.{TreeWords}

with_below : (o : Option ℕ) (f : ℕ → Option ℕ) → BelowIn o → ((x : ℕ) → x < 2 ^ 32 → BelowIn (f x)) → BelowIn (with_word o f)
with_below None f h k = tt
with_below (Some x) f h k = k x h

-- the two definitions of what an operator gives say the same
defined_below : (r : Result ℕ Undefined) → BelowIn (starts.defined_word r) → BelowIn (defined_word r)
defined_below (Ok w) h = h
defined_below (Err cause) h = tt

truth_below : (x : ℕ) → BelowIn (truth_of x)
truth_below x = of (x == 0)
  where
    of : (b : Bool) → (if b then 0 else 1) < 2 ^ 32
    of true = omega arith
    of false = omega arith

-- a constant whose value, where it has one, is a word
abbrev FoldedBelow : Option Folded → Type 0
FoldedBelow None = Unit {0}
FoldedBelow (Some a) = BelowIn a.word

of_one_below : (o : Option Folded) (f : Folded → Option Folded) → FoldedBelow o → ((a : Folded) → BelowIn a.word → FoldedBelow (f a)) → FoldedBelow (of_one o f)
of_one_below None f h k = tt
of_one_below (Some a) f h k = k a h

sign_below : (sign : Option Sign) (a : Folded) → BelowIn a.word → FoldedBelow (signed_constant sign a)
sign_below None a h = tt
sign_below (Some sign) a h =
    with_below a.word (λ x. defined_word (signed_by sign (promoted a.kind) (converted (promoted a.kind) x))) h
    (λ x k. defined_below (signed_by sign (promoted a.kind) (converted (promoted a.kind) x)) (signed_below sign (promoted a.kind) (converted (promoted a.kind) x) (converted_below (promoted a.kind) x k)))

operated_below : (operator : Option Operator) (a b : Folded) → BelowIn a.word → BelowIn b.word → FoldedBelow (operated_constant operator a b)
operated_below None a b h k = tt
operated_below (Some operator) a b h k =
    let kind = left_kind operator a.kind b.kind in
    let other = right_kind operator a.kind b.kind in
    with_below a.word (λ x. with_word b.word (λ y. defined_word (computed operator kind (converted kind x) (converted other y)))) h
    (λ x l. with_below b.word (λ y. defined_word (computed operator kind (converted kind x) (converted other y))) k
    (λ y m. defined_below (computed operator kind (converted kind x) (converted other y)) (computed_below operator kind (converted kind x) (converted other y) (converted_below kind x l) (converted_below other y m))))

both_below : (operator : BinaryOperator) (a b : Folded) → BelowIn a.word → BelowIn b.word → FoldedBelow (binary_constant operator a b)
both_below binary.And a b h k =
    with_below a.word (λ x. if x == 0 then Some 0 else with_word b.word truth_of) h
    (λ x l. either_below (x == 0) (Some 0) (with_word b.word truth_of) (omega arith) (with_below b.word truth_of k (λ y m. truth_below y)))
both_below binary.Or a b h k =
    with_below a.word (λ x. if x == 0 then with_word b.word truth_of else Some 1) h
    (λ x l. either_below (x == 0) (with_word b.word truth_of) (Some 1) (with_below b.word truth_of k (λ y m. truth_below y)) (omega arith))
both_below binary.Multiply a b h k = operated_below (operator_of binary.Multiply) a b h k
both_below binary.Divide a b h k = operated_below (operator_of binary.Divide) a b h k
both_below binary.Remainder a b h k = operated_below (operator_of binary.Remainder) a b h k
both_below binary.Add a b h k = operated_below (operator_of binary.Add) a b h k
both_below binary.Subtract a b h k = operated_below (operator_of binary.Subtract) a b h k
both_below binary.ShiftLeft a b h k = operated_below (operator_of binary.ShiftLeft) a b h k
both_below binary.ShiftRight a b h k = operated_below (operator_of binary.ShiftRight) a b h k
both_below binary.Less a b h k = operated_below (operator_of binary.Less) a b h k
both_below binary.Greater a b h k = operated_below (operator_of binary.Greater) a b h k
both_below binary.LessEqual a b h k = operated_below (operator_of binary.LessEqual) a b h k
both_below binary.GreaterEqual a b h k = operated_below (operator_of binary.GreaterEqual) a b h k
both_below binary.Equal a b h k = operated_below (operator_of binary.Equal) a b h k
both_below binary.NotEqual a b h k = operated_below (operator_of binary.NotEqual) a b h k
both_below binary.BitAnd a b h k = operated_below (operator_of binary.BitAnd) a b h k
both_below binary.BitXor a b h k = operated_below (operator_of binary.BitXor) a b h k
both_below binary.BitOr a b h k = operated_below (operator_of binary.BitOr) a b h k
both_below binary.Comma a b h k = operated_below (operator_of binary.Comma) a b h k

chosen_below : (test a b : Folded) → BelowIn test.word → BelowIn a.word → BelowIn b.word → FoldedBelow (chosen_constant test a b)
chosen_below test a b t h k =
    let kind = common a.kind b.kind in
    with_below test.word (λ x. with_word (if x == 0 then b.word else a.word) (λ y. Some (converted kind y))) t
    (λ x l. with_below (if x == 0 then b.word else a.word) (λ y. Some (converted kind y)) (either_below (x == 0) b.word a.word k h) (λ y m. converted_below kind y m))

cast_to : (kind : Kind) (a : Folded) → BelowIn a.word → BelowIn (with_word a.word (λ x. Some (converted kind x)))
cast_to kind a h = with_below a.word (λ x. Some (converted kind x)) h (λ x k. converted_below kind x k)

cast_below : (kind : Kind) (a : Folded) → BelowIn a.word → FoldedBelow (cast_constant kind a)
cast_below types.Void a h = tt
cast_below types.Char a h = cast_to types.Char a h
cast_below types.SignedChar a h = cast_to types.SignedChar a h
cast_below types.UnsignedChar a h = cast_to types.UnsignedChar a h
cast_below types.Short a h = cast_to types.Short a h
cast_below types.UnsignedShort a h = cast_to types.UnsignedShort a h
cast_below types.Int a h = cast_to types.Int a h
cast_below types.Unsigned a h = cast_to types.Unsigned a h
cast_below types.Long a h = cast_to types.Long a h
cast_below types.UnsignedLong a h = cast_to types.UnsignedLong a h

folded_below : (e : Expr ℕ) → TreeWords e → FoldedBelow (folded e)
folded_below (Number c at) h = h
folded_below (Character value at) h = h
folded_below (Name name at) h = tt
folded_below (Paren inner at) h = folded_below inner h
folded_below (Index array index at) h = tt
folded_below (Call function arguments at) h = tt
folded_below (Postfix operator operand at) h = tt
folded_below (Prefix operator operand at) h = of_one_below (folded operand) (signed_constant (sign_of operator)) (folded_below operand h) (λ a k. sign_below (sign_of operator) a k)
folded_below (Cast specifiers operand at) h = of_one_below (folded operand) (cast_constant (kind_spelled specifiers)) (folded_below operand h) (λ a k. cast_below (kind_spelled specifiers) a k)
folded_below (Binary operator left right at) h =
    of_one_below (folded left) (λ a. of_one (folded right) (binary_constant operator a)) (folded_below left h.0) (λ a k. of_one_below (folded right) (binary_constant operator a) (folded_below right h.1) (λ b l. both_below operator a b k l))
folded_below (Conditional test first second at) h =
    of_one_below (folded test) (λ x. of_one (folded first) (λ a. of_one (folded second) (chosen_constant x a))) (folded_below test h.0)
    (λ x k. of_one_below (folded first) (λ a. of_one (folded second) (chosen_constant x a)) (folded_below first h.1)
    (λ a l. of_one_below (folded second) (chosen_constant x a) (folded_below second h.2) (λ b m. chosen_below x a b k l m)))
folded_below (Assign operator target value at) h = tt

word_in_below : (o : Option Folded) → FoldedBelow o → or_zero (word_in o) < 2 ^ 32
word_in_below None h = omega arith
word_in_below (Some a) h = of a.word h
  where
    of : (o : Option ℕ) → BelowIn o → or_zero o < 2 ^ 32
    of None h = omega arith
    of (Some w) h = h

-- the word of a label
pub case_word : (e : Expr ℕ) → TreeWords e → or_zero (constant_word e) < 2 ^ 32
case_word e h = word_in_below (folded e) (folded_below e h)
