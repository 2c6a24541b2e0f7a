-- What operators compute of words of 32 bits: total, as the machine's are
-- (RISC-V unprivileged 2.4 and the M extension).
use Rattle.std.specs.Prelude.{ℕ, ◌-◌, ◌%◌, ◌^◌, ◌==◌, Bool}
use Rattle.wcc_base.specs.Words.{sign_filled, sum_word, difference_word, product_word, quotient_word, remainder_word, signed_quotient_word, signed_remainder_word, and_word, or_word, xor_word, left_shift_word, right_shift_word, signed_right_shift_word, equal_word, less_word, signed_less_word}
use Rattle.high_ir.specs.declared.object.Kind.{Kind}
use Rattle.high_ir.specs.declared.object.Kind.TheVariants.{Unsigned8, Signed8, Unsigned16, Signed16, Word}
use Rattle.high_ir.specs.declared.expression.UnaryOperator.{UnaryOperator}
use Rattle.high_ir.specs.declared.expression.UnaryOperator.TheVariants.{Negate, Complement, IsZero, Convert}
use Rattle.high_ir.specs.declared.expression.BinaryOperator.{BinaryOperator}
use Rattle.high_ir.specs.declared.expression.BinaryOperator.TheVariants.{Add, Subtract, Multiply, Divide, DivideUnsigned, Remainder, RemainderUnsigned, And, Or, Xor, ShiftLeft, ShiftRight, ShiftRightUnsigned, Equal, NotEqual, Less, LessUnsigned, AtLeast, AtLeastUnsigned}

-- what an element of the kind keeps of a word
unfoldable pub converted : Kind → ℕ → ℕ
converted Unsigned8 w = w % 2 ^ 8
converted Signed8 w = sign_filled 8 w
converted Unsigned16 w = w % 2 ^ 16
converted Signed16 w = sign_filled 16 w
converted Word w = w

unfoldable pub unary_word : UnaryOperator → ℕ → ℕ
unary_word Negate w = difference_word 0 w
unary_word Complement w = xor_word w (2 ^ 32 - 1)
unary_word IsZero w = equal_word w 0
unary_word (Convert kind) w = converted kind w

-- 1 where a test gave 0, and 0 where it gave 1
abbrev pub untrue_word : ℕ → ℕ
untrue_word w = equal_word w 0

unfoldable pub binary_word : BinaryOperator → ℕ → ℕ → ℕ
binary_word Add a b = sum_word a b
binary_word Subtract a b = difference_word a b
binary_word Multiply a b = product_word a b
binary_word Divide a b = signed_quotient_word a b
binary_word DivideUnsigned a b = quotient_word a b
binary_word Remainder a b = signed_remainder_word a b
binary_word RemainderUnsigned a b = remainder_word a b
binary_word And a b = and_word a b
binary_word Or a b = or_word a b
binary_word Xor a b = xor_word a b
binary_word ShiftLeft a b = left_shift_word a b
binary_word ShiftRight a b = signed_right_shift_word a b
binary_word ShiftRightUnsigned a b = right_shift_word a b
binary_word Equal a b = equal_word a b
binary_word NotEqual a b = untrue_word (equal_word a b)
binary_word Less a b = signed_less_word a b
binary_word LessUnsigned a b = less_word a b
binary_word AtLeast a b = untrue_word (signed_less_word a b)
binary_word AtLeastUnsigned a b = untrue_word (less_word a b)

-- a number for each kind
abbrev pub kind_number : Kind → ℕ
kind_number Unsigned8 = 0
kind_number Signed8 = 1
kind_number Unsigned16 = 2
kind_number Signed16 = 3
kind_number Word = 4

abbrev pub same_kind : Kind → Kind → Bool
same_kind a b = kind_number a == kind_number b

-- how many bytes an element takes
abbrev pub kind_bytes : Kind → ℕ
kind_bytes Unsigned8 = 1
kind_bytes Signed8 = 1
kind_bytes Unsigned16 = 2
kind_bytes Signed16 = 2
kind_bytes Word = 4
