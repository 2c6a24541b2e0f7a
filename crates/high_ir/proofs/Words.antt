-- What operators compute of words are words.
use Rattle.std.proofs.Common.{ℕ, zero, suc, ◌*◌, ◌%◌, ◌^◌, ◌<◌, Bool, true, false, nat_lt, ℤ, pos, negsuc, arith}
use Rattle.std.specs.Prelude.{◌-◌, ◌==◌, int_div, int_rem, int_lt}
use Rattle.std.specs.Int.Bits.{and_lt}
use Rattle.std.proofs.Math.Nat.{div-le_self}
use Rattle.std.proofs.lemmas.Nat.{xor_lt, or_lt, mod_below}
use Rattle.wcc_base.specs.Signs.{signed_of}
use Rattle.wcc_base.specs.Words.{signed_word, wrapped, truth_word, product_word, quotient_word, remainder_word, signed_quotient_word, signed_remainder_word, left_shift_word, right_shift_word, floor_shift, equal_word, less_word, signed_less_word}
use Rattle.high_ir.specs.declared.object.Kind.{Kind}
use Rattle.high_ir.specs.declared.object.Kind.TheVariants as kinds
use Rattle.high_ir.specs.declared.expression.UnaryOperator.{UnaryOperator}
use Rattle.high_ir.specs.declared.expression.UnaryOperator.TheVariants.{Negate, Complement, IsZero, Convert}
use Rattle.high_ir.specs.declared.expression.BinaryOperator.{BinaryOperator}
use Rattle.high_ir.specs.declared.expression.BinaryOperator.TheVariants.{Add, Subtract, Multiply, Divide, DivideUnsigned, Remainder, RemainderUnsigned, And, Or, Xor, ShiftLeft, ShiftRight, ShiftRightUnsigned, Equal, NotEqual, Less, LessUnsigned, AtLeast, AtLeastUnsigned}
use Rattle.high_ir.specs.Words.{converted, unary_word, binary_word}

pub truth_below : (b : Bool) → truth_word b < 2 ^ 32
truth_below true = omega arith
truth_below false = omega arith

pub wrapped_below : (z : ℤ) → wrapped z < 2 ^ 32
wrapped_below (pos n) = omega arith
wrapped_below (negsuc n) = omega arith

product_below : (a b : ℕ) → product_word a b < 2 ^ 32
product_below a b = mod_below (a * b) (2 ^ 32) (omega arith)

quotient_below : (a b : ℕ) → a < 2 ^ 32 → quotient_word a b < 2 ^ 32
quotient_below a zero h = omega arith
quotient_below a (suc b) h = let le = div-le_self a (suc b) in omega (arith, le, h)

remainder_below : (a b : ℕ) → a < 2 ^ 32 → b < 2 ^ 32 → remainder_word a b < 2 ^ 32
remainder_below a zero h k = h
remainder_below a (suc b) h k = let lt = mod_below a (suc b) (omega arith) in omega (arith, lt, k)

signed_quotient_below : (a b : ℕ) → signed_quotient_word a b < 2 ^ 32
signed_quotient_below a zero = omega arith
signed_quotient_below a (suc b) = wrapped_below (int_div (signed_word a) (signed_word (suc b)))

signed_remainder_below : (a b : ℕ) → a < 2 ^ 32 → signed_remainder_word a b < 2 ^ 32
signed_remainder_below a zero h = h
signed_remainder_below a (suc b) h = wrapped_below (int_rem (signed_word a) (signed_word (suc b)))

left_shift_below : (a b : ℕ) → left_shift_word a b < 2 ^ 32
left_shift_below a b = mod_below (a * 2 ^ (b % 32)) (2 ^ 32) (omega arith)

right_shift_below : (a b : ℕ) → a < 2 ^ 32 → right_shift_word a b < 2 ^ 32
right_shift_below a b h = let le = div-le_self a (2 ^ (b % 32)) in omega (arith, le, h)

pub binary_below : (operator : BinaryOperator) (a b : ℕ) → a < 2 ^ 32 → b < 2 ^ 32 → binary_word operator a b < 2 ^ 32
unfolding binary_word
binary_below Add a b h k = omega arith
binary_below Subtract a b h k = omega arith
binary_below Multiply a b h k = product_below a b
binary_below Divide a b h k = signed_quotient_below a b
binary_below DivideUnsigned a b h k = quotient_below a b h
binary_below Remainder a b h k = signed_remainder_below a b h
binary_below RemainderUnsigned a b h k = remainder_below a b h k
binary_below And a b h k = and_lt 32 a b h k
binary_below Or a b h k = or_lt 32 a b h k
binary_below Xor a b h k = xor_lt 32 a b h k
binary_below ShiftLeft a b h k = left_shift_below a b
binary_below ShiftRight a b h k = wrapped_below (floor_shift (signed_word a) (b % 32))
binary_below ShiftRightUnsigned a b h k = right_shift_below a b h
binary_below Equal a b h k = truth_below (a == b)
binary_below NotEqual a b h k = truth_below (equal_word a b == 0)
binary_below Less a b h k = truth_below (int_lt (signed_word a) (signed_word b))
binary_below LessUnsigned a b h k = truth_below (nat_lt a b)
binary_below AtLeast a b h k = truth_below (signed_less_word a b == 0)
binary_below AtLeastUnsigned a b h k = truth_below (less_word a b == 0)

pub converted_below : (kind : Kind) (w : ℕ) → w < 2 ^ 32 → converted kind w < 2 ^ 32
unfolding converted
converted_below kinds.Unsigned8 w h = omega arith
converted_below kinds.Signed8 w h = wrapped_below (signed_of 8 (w % 2 ^ 8))
converted_below kinds.Unsigned16 w h = omega arith
converted_below kinds.Signed16 w h = wrapped_below (signed_of 16 (w % 2 ^ 16))
converted_below kinds.Word w h = h

pub unary_below : (operator : UnaryOperator) (w : ℕ) → w < 2 ^ 32 → unary_word operator w < 2 ^ 32
unfolding unary_word
unary_below Negate w h = omega arith
unary_below Complement w h = xor_lt 32 w (2 ^ 32 - 1) h (omega arith)
unary_below IsZero w h = truth_below (w == 0)
unary_below (Convert kind) w h = converted_below kind w h
