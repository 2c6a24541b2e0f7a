-- Constant expressions: constants, casts and operators, without assignment, call or comma (C11 6.6).
use Rattle.std.specs.Prelude.{ℕ, ◌==◌, if◌then◌else◌, Option, Some, None, Result, Ok, Err}
use Rattle.c_tree.specs.Tree.{Expr, Number, Character, Paren, Prefix, Cast, Binary, Conditional}
use Rattle.c_tree.specs.declared.expression.BinaryOperator.{BinaryOperator}
use Rattle.c_tree.specs.declared.expression.BinaryOperator.TheVariants as binary
use Rattle.types_value.specs.Kinds.{common, converted, promoted}
use Rattle.types_value.specs.Operators.{computed, signed_by}
use Rattle.types_value.specs.declared.kind.Kind.{Kind}
use Rattle.types_value.specs.declared.kind.Kind.TheVariants.{Void, Int}
use Rattle.types_value.specs.declared.operator.Operator.{Operator}
use Rattle.types_value.specs.declared.operator.Sign.{Sign}
use Rattle.types_value.specs.declared.operator.Undefined.{Undefined}
use Rattle.types_rules.specs.Operations.{constant_kind, operator_of, sign_of, left_kind, right_kind, value_kind, sign_kind}
use Rattle.types_rules.specs.Specifiers.{kind_spelled}
use Rattle.types_rules.specs.declared.constant.Folded.{Folded}

-- a constant of this type with this word
abbrev pub constant : Kind → Option ℕ → Folded
constant kind word = record { kind = kind; word = word }

-- the word of an operator that has a value
abbrev pub defined_word : Result ℕ Undefined → Option ℕ
defined_word (Ok word) = Some word
defined_word (Err cause) = None

abbrev pub with_word : Option ℕ → (ℕ → Option ℕ) → Option ℕ
with_word None f = None
with_word (Some word) f = f word

-- 1 for a word that isn't 0
abbrev pub truth_of : ℕ → Option ℕ
truth_of word = Some (if word == 0 then 0 else 1)

-- an operator on an operand
abbrev pub signed_constant : Option Sign → Folded → Option Folded
signed_constant None a = None
signed_constant (Some sign) a =
    Some (constant (sign_kind sign a.kind) (with_word a.word (λ x. defined_word (signed_by sign (promoted a.kind) (converted (promoted a.kind) x)))))

-- an operator on both operands
abbrev pub operated_constant : Option Operator → Folded → Folded → Option Folded
operated_constant None a b = None
operated_constant (Some operator) a b =
    let kind = left_kind operator a.kind b.kind in
    Some (constant (value_kind operator a.kind b.kind)
    (with_word a.word (λ x. with_word b.word (λ y. defined_word (computed operator kind (converted kind x) (converted (right_kind operator a.kind b.kind) y))))))

-- `&&` and `||` leave their right operand alone where the left one decides (C11 6.5.13, 6.5.14)
abbrev pub binary_constant : BinaryOperator → Folded → Folded → Option Folded
binary_constant binary.And a b = Some (constant Int (with_word a.word (λ x. if x == 0 then Some 0 else with_word b.word truth_of)))
binary_constant binary.Or a b = Some (constant Int (with_word a.word (λ x. if x == 0 then with_word b.word truth_of else Some 1)))
binary_constant operator a b = operated_constant (operator_of operator) a b

-- only the part that is chosen has to have a value (C11 6.5.15)
abbrev pub chosen_constant : Folded → Folded → Folded → Option Folded
chosen_constant test a b =
    let kind = common a.kind b.kind in
    Some (constant kind (with_word test.word (λ x. with_word (if x == 0 then b.word else a.word) (λ y. Some (converted kind y)))))

-- a cast to void gives no constant
abbrev pub cast_constant : Kind → Folded → Option Folded
cast_constant Void a = None
cast_constant kind a = Some (constant kind (with_word a.word (λ x. Some (converted kind x))))

abbrev pub of_one : Option Folded → (Folded → Option Folded) → Option Folded
of_one None f = None
of_one (Some a) f = f a

-- the constant that an expression is, if it has the form of one
abbrev pub folded : Expr ℕ → Option Folded
folded (Number c at) = Some (constant (constant_kind c.scalar) (Some c.value))
folded (Character value at) = Some (constant Int (Some value))
folded (Paren inner at) = folded inner
folded (Prefix operator operand at) = of_one (folded operand) (signed_constant (sign_of operator))
folded (Cast specifiers operand at) = of_one (folded operand) (cast_constant (kind_spelled specifiers))
folded (Binary operator left right at) = of_one (folded left) (λ a. of_one (folded right) (binary_constant operator a))
folded (Conditional test first second at) = of_one (folded test) (λ x. of_one (folded first) (λ a. of_one (folded second) (chosen_constant x a)))
folded _ = None

abbrev pub word_in : Option Folded → Option ℕ
word_in None = None
word_in (Some a) = a.word

-- the word of a constant expression that has a defined value
abbrev pub constant_word : Expr ℕ → Option ℕ
constant_word e = word_in (folded e)
