-- The operators at a type, and where they are undefined (C11 6.5.3.3, 6.5.5 to 6.5.12).
use Rattle.std.specs.Prelude.{ℕ, ◌-◌, ◌*◌, ◌^◌, ◌==◌, nat_le, ◌&&◌, Bool, true, false, not, ℤ, pos, negsuc, ◌+ℤ◌, ◌-ℤ◌, ◌*ℤ◌, int_le, Result, Ok, Err, Option, Some, None, if◌then◌else◌}
use Rattle.wcc_base.specs.Words.{signed_word, sum_word, difference_word, product_word, quotient_word, remainder_word, signed_quotient_word, signed_remainder_word, and_word, or_word, xor_word, left_shift_word, right_shift_word, signed_right_shift_word, equal_word, less_word, signed_less_word}
use Rattle.types_value.specs.Kinds.{is_signed}
use Rattle.types_value.specs.declared.kind.Kind.{Kind}
use Rattle.types_value.specs.declared.operator.Operator.{Operator}
use Rattle.types_value.specs.declared.operator.Operator.TheVariants.{Multiply, Divide, Remainder, Add, Subtract, ShiftLeft, ShiftRight, Less, Greater, LessEqual, GreaterEqual, Equal, NotEqual, BitAnd, BitXor, BitOr}
use Rattle.types_value.specs.declared.operator.Sign.{Sign}
use Rattle.types_value.specs.declared.operator.Sign.TheVariants.{Negate, Plus, Complement, Not}
use Rattle.types_value.specs.declared.operator.Undefined.{Undefined}
use Rattle.types_value.specs.declared.operator.Undefined.TheVariants.{Overflow, ZeroDivisor, Quotient, ShiftCount, LeftShift}

-- whether a number is none of 32 bits with a sign
abbrev pub overflows : ℤ → Bool
overflows z = not (int_le (negsuc 2147483647) z && int_le z (pos 2147483647))

abbrev pub when : Bool → Undefined → Option Undefined
when true cause = Some cause
when false cause = None

-- the divisor is 0, or the quotient is no number of the type
abbrev pub not_divided : (signed : Bool) → ℕ → ℕ → Option Undefined
not_divided signed x y =
    if y == 0 then Some ZeroDivisor
    else when (signed && (x == 2 ^ 31) && (y == 2 ^ 32 - 1)) Quotient

-- the count is negative, which is a word from 2^31 on, or at least 32; or a value with a sign is negative or leaves its type
abbrev pub not_shifted_left : (signed : Bool) → ℕ → ℕ → Option Undefined
not_shifted_left signed x y =
    if nat_le 32 y then Some ShiftCount
    else when (signed && nat_le (2 ^ 31) (x * 2 ^ y)) LeftShift

-- why an operator on words of a type has no value
abbrev pub undefined : Operator → (signed : Bool) → ℕ → ℕ → Option Undefined
undefined Multiply signed x y = when (signed && overflows (signed_word x *ℤ signed_word y)) Overflow
undefined Divide signed x y = not_divided signed x y
undefined Remainder signed x y = not_divided signed x y
undefined Add signed x y = when (signed && overflows (signed_word x +ℤ signed_word y)) Overflow
undefined Subtract signed x y = when (signed && overflows (signed_word x -ℤ signed_word y)) Overflow
undefined ShiftLeft signed x y = not_shifted_left signed x y
undefined ShiftRight signed x y = when (nat_le 32 y) ShiftCount
undefined _ signed x y = None

abbrev pub quotient_of : (signed : Bool) → ℕ → ℕ → ℕ
quotient_of true x y = signed_quotient_word x y
quotient_of false x y = quotient_word x y

abbrev pub remainder_of : (signed : Bool) → ℕ → ℕ → ℕ
remainder_of true x y = signed_remainder_word x y
remainder_of false x y = remainder_word x y

abbrev pub right_shift_of : (signed : Bool) → ℕ → ℕ → ℕ
right_shift_of true x y = signed_right_shift_word x y
right_shift_of false x y = right_shift_word x y

abbrev pub less_of : (signed : Bool) → ℕ → ℕ → ℕ
less_of true x y = signed_less_word x y
less_of false x y = less_word x y

-- the word of an operator that has a value
abbrev pub word_of : Operator → (signed : Bool) → ℕ → ℕ → ℕ
word_of Multiply signed x y = product_word x y
word_of Divide signed x y = quotient_of signed x y
word_of Remainder signed x y = remainder_of signed x y
word_of Add signed x y = sum_word x y
word_of Subtract signed x y = difference_word x y
word_of ShiftLeft signed x y = left_shift_word x y
word_of ShiftRight signed x y = right_shift_of signed x y
word_of Less signed x y = less_of signed x y
word_of Greater signed x y = less_of signed y x
word_of LessEqual signed x y = equal_word (less_of signed y x) 0
word_of GreaterEqual signed x y = equal_word (less_of signed x y) 0
word_of Equal signed x y = equal_word x y
word_of NotEqual signed x y = equal_word (equal_word x y) 0
word_of BitAnd signed x y = and_word x y
word_of BitXor signed x y = xor_word x y
word_of BitOr signed x y = or_word x y

-- the cause, or else the word
abbrev pub given : Option Undefined → ℕ → Result ℕ Undefined
given None w = Ok w
given (Some cause) w = Err cause

-- an operator on two words that were converted to a type
unfoldable pub computed : Operator → Kind → ℕ → ℕ → Result ℕ Undefined
computed operator kind x y = given (undefined operator (is_signed kind) x y) (word_of operator (is_signed kind) x y)

-- an operator before a word that was promoted to a type
unfoldable pub signed_by : Sign → Kind → ℕ → Result ℕ Undefined
signed_by Negate kind x = given (when (is_signed kind && x == 2 ^ 31) Overflow) (difference_word 0 x)
signed_by Plus kind x = Ok x
signed_by Complement kind x = Ok (xor_word x (2 ^ 32 - 1))
signed_by Not kind x = Ok (equal_word x 0)
