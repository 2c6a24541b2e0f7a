-- The value of a constant expression is a word where its constants are.
use Rattle.std.proofs.Common.{ℕ, ◌<◌, ◌^◌, ◌%◌, Bool, true, false, [], Option, Some, None, arith, All}
use Rattle.std.specs.Prelude.{◌-◌, ◌==◌, ◌&&◌, if◌then◌else◌, nat_lt, int_lt}
use Rattle.std.proofs.lemmas.List.Elements.{All-cons, All-nil}
use Rattle.std.proofs.lemmas.Nat.{xor_lt}
use Rattle.wcc_base.specs.Signs.{signed_of}
use Rattle.wcc_base.specs.Words.{difference_word, signed_word}
use Rattle.facts_definitions.specs.Starts.{defined_word, truth_of, with_word, word}
use Rattle.types_tree.specs.Tree as c
use Rattle.types_value.specs.Kinds.{converted, is_signed}
use Rattle.types_value.specs.Operators.{computed, given, less_of, signed_by, undefined, when, word_of}
use Rattle.types_value.specs.declared.kind.Kind.{Kind}
use Rattle.types_value.specs.declared.kind.Kind.TheVariants as types
use Rattle.types_value.specs.declared.operator.Operator.{Operator}
use Rattle.types_value.specs.declared.operator.Operator.TheVariants as operators
use Rattle.types_value.specs.declared.operator.Sign.{Sign}
use Rattle.types_value.specs.declared.operator.Sign.TheVariants as signs
use Rattle.types_value.specs.declared.operator.Undefined.{Undefined}
use Rattle.types_value.specs.declared.operator.Undefined.TheVariants.{Overflow}
use Rattle.high_ir.specs.declared.expression.BinaryOperator.TheVariants as binary
use Rattle.high_ir.specs.Words.{binary_word}
use Rattle.high_ir.proofs.Words.{binary_below, truth_below, wrapped_below}
use Rattle.plan_definition.specs.Layouts.{initial_words, word_or_zero, words_of}
use Rattle.plan_law.specs.Words.{ExprWords, ExprsWords, InitialWords}

-- a value, where there is one, is a word
abbrev pub BelowIn : Option ℕ → Type 0
BelowIn None = Unit {0}
BelowIn (Some w) = w < 2 ^ 32

with_below : (o : Option ℕ) (f : ℕ → Option ℕ) → BelowIn o → ((x : ℕ) → x < 2 ^ 32 → BelowIn (f x)) → BelowIn (with_word o f)
with_below None f h k = tt
with_below (Some x) f h k = k x h

pub either_below : (b : Bool) (p q : Option ℕ) → BelowIn p → BelowIn q → BelowIn (if b then p else q)
either_below true p q h k = h
either_below false p q h k = k

given_below : (o : Option Undefined) (w : ℕ) → w < 2 ^ 32 → BelowIn (defined_word (given o w))
given_below None w h = h
given_below (Some cause) w h = tt

truth_of_below : (x : ℕ) → BelowIn (truth_of x)
truth_of_below x = of (x == 0)
  where
    of : (b : Bool) → (if b then 0 else 1) < 2 ^ 32
    of true = omega arith
    of false = omega arith

pub signed_below : (operator : Sign) (kind : Kind) (x : ℕ) → x < 2 ^ 32 → BelowIn (defined_word (signed_by operator kind x))
unfolding signed_by
signed_below signs.Negate kind x h = given_below (when (is_signed kind && x == 2 ^ 31) Overflow) (difference_word 0 x) (omega arith)
signed_below signs.Plus kind x h = h
signed_below signs.Complement kind x h = xor_lt 32 x (2 ^ 32 - 1) h (omega arith)
signed_below signs.Not kind x h = truth_below (x == 0)

pub converted_below : (kind : Kind) (w : ℕ) → w < 2 ^ 32 → converted kind w < 2 ^ 32
converted_below types.Void w h = h
converted_below types.Char w h = omega arith
converted_below types.SignedChar w h = wrapped_below (signed_of 8 (w % 2 ^ 8))
converted_below types.UnsignedChar w h = omega arith
converted_below types.Short w h = wrapped_below (signed_of 16 (w % 2 ^ 16))
converted_below types.UnsignedShort w h = omega arith
converted_below types.Int w h = h
converted_below types.Unsigned w h = h
converted_below types.Long w h = h
converted_below types.UnsignedLong w h = h

word_of_below : (operator : Operator) (s : Bool) (x y : ℕ) → x < 2 ^ 32 → y < 2 ^ 32 → word_of operator s x y < 2 ^ 32
unfolding binary_word
word_of_below operators.Multiply s x y h k = binary_below binary.Multiply x y h k
word_of_below operators.Divide true x y h k = binary_below binary.Divide x y h k
word_of_below operators.Divide false x y h k = binary_below binary.DivideUnsigned x y h k
word_of_below operators.Remainder true x y h k = binary_below binary.Remainder x y h k
word_of_below operators.Remainder false x y h k = binary_below binary.RemainderUnsigned x y h k
word_of_below operators.Add s x y h k = binary_below binary.Add x y h k
word_of_below operators.Subtract s x y h k = binary_below binary.Subtract x y h k
word_of_below operators.ShiftLeft s x y h k = binary_below binary.ShiftLeft x y h k
word_of_below operators.ShiftRight true x y h k = binary_below binary.ShiftRight x y h k
word_of_below operators.ShiftRight false x y h k = binary_below binary.ShiftRightUnsigned x y h k
word_of_below operators.Less true x y h k = truth_below (int_lt (signed_word x) (signed_word y))
word_of_below operators.Less false x y h k = truth_below (nat_lt x y)
word_of_below operators.Greater true x y h k = truth_below (int_lt (signed_word y) (signed_word x))
word_of_below operators.Greater false x y h k = truth_below (nat_lt y x)
word_of_below operators.LessEqual s x y h k = truth_below (less_of s y x == 0)
word_of_below operators.GreaterEqual s x y h k = truth_below (less_of s x y == 0)
word_of_below operators.Equal s x y h k = binary_below binary.Equal x y h k
word_of_below operators.NotEqual s x y h k = binary_below binary.NotEqual x y h k
word_of_below operators.BitAnd s x y h k = binary_below binary.And x y h k
word_of_below operators.BitXor s x y h k = binary_below binary.Xor x y h k
word_of_below operators.BitOr s x y h k = binary_below binary.Or x y h k

pub computed_below : (operator : Operator) (kind : Kind) (x y : ℕ) → x < 2 ^ 32 → y < 2 ^ 32 → BelowIn (defined_word (computed operator kind x y))
unfolding computed
computed_below operator kind x y h k = given_below (undefined operator (is_signed kind) x y) (word_of operator (is_signed kind) x y) (word_of_below operator (is_signed kind) x y h k)

word_below : (e : c.Expr) → ExprWords e → BelowIn (word e)
word_below (c.Number constant at) h = h
word_below (c.Character value at) h = h
word_below (c.Read place) h = tt
word_below (c.Array object at) h = tt
word_below (c.Paren inner at) h = word_below inner h
word_below (c.Call callee arguments at) h = tt
word_below (c.Step fix operator kind target at) h = tt
word_below (c.Signed operator kind operand at) h = with_below (word operand) (λ x. defined_word (signed_by operator kind x)) (word_below operand h) (λ x k. signed_below operator kind x k)
word_below (c.Cast specifiers to operand at) h = with_below (word operand) (λ x. Some (converted to x)) (word_below operand h) (λ x k. converted_below to x k)
word_below (c.Convert to operand) h = with_below (word operand) (λ x. Some (converted to x)) (word_below operand h) (λ x k. converted_below to x k)
word_below (c.Operate operator kind left right at) h =
    with_below (word left) (λ x. with_word (word right) (λ y. defined_word (computed operator kind x y))) (word_below left h.0)
    (λ x k. with_below (word right) (λ y. defined_word (computed operator kind x y)) (word_below right h.1) (λ y l. computed_below operator kind x y k l))
word_below (c.And left right at) h =
    with_below (word left) (λ x. if x == 0 then Some 0 else with_word (word right) truth_of) (word_below left h.0)
    (λ x k. either_below (x == 0) (Some 0) (with_word (word right) truth_of) (omega arith) (with_below (word right) truth_of (word_below right h.1) (λ y l. truth_of_below y)))
word_below (c.Or left right at) h =
    with_below (word left) (λ x. if x == 0 then with_word (word right) truth_of else Some 1) (word_below left h.0)
    (λ x k. either_below (x == 0) (with_word (word right) truth_of) (Some 1) (with_below (word right) truth_of (word_below right h.1) (λ y l. truth_of_below y)) (omega arith))
word_below (c.Comma left right at) h = tt
word_below (c.Conditional test first second at) h =
    with_below (word test) (λ x. if x == 0 then word second else word first) (word_below test h.0)
    (λ x k. either_below (x == 0) (word second) (word first) (word_below second h.2) (word_below first h.1))
word_below (c.Assign target value at) h = tt
word_below (c.Update operator kind to target value at) h = tt

or_zero_below : (o : Option ℕ) → BelowIn o → word_or_zero o < 2 ^ 32
or_zero_below None h = omega arith
or_zero_below (Some w) h = h

words_below : (es : c.Exprs) → ExprsWords es → All (λ v. v < 2 ^ 32) (words_of es)
words_below c.NoExpr h = All-nil (λ v. v < 2 ^ 32)
words_below (c.WithExpr e rest) h = All-cons (λ v. v < 2 ^ 32) (word_or_zero (word e)) (words_of rest) (or_zero_below (word e) (word_below e h.0)) (words_below rest h.1)

pub initial_below : (initial : c.Initial) → InitialWords initial → All (λ v. v < 2 ^ 32) (initial_words initial)
initial_below c.Absent h = All-nil (λ v. v < 2 ^ 32)
initial_below (c.Value e) h = All-cons (λ v. v < 2 ^ 32) (word_or_zero (word e)) [] (or_zero_below (word e) (word_below e h)) (All-nil (λ v. v < 2 ^ 32))
initial_below (c.Listed values comma filling) h = words_below values h
