-- What operators become: instructions that put a value into the register d, by way of the register t where they need two.
use Rattle.std.specs.Prelude.{ℕ, zero, suc, ◌-◌, ◌%◌, ◌^◌, ◌==◌, Bool, true, false, if◌then◌else◌, List, [], ◌∷◌, Option, Some, None}
use Rattle.rv_core.specs.declared.row.Alu.{Alu}
use Rattle.rv_core.specs.declared.row.Alu.TheVariants as alu
use Rattle.rv_core.specs.declared.row.Condition.{Condition}
use Rattle.rv_core.specs.declared.row.Condition.TheVariants as conditions
use Rattle.high_ir.specs.declared.object.Kind.{Kind}
use Rattle.high_ir.specs.declared.object.Kind.TheVariants.{Unsigned8, Signed8, Unsigned16, Signed16, Word}
use Rattle.high_ir.specs.declared.expression.UnaryOperator.{UnaryOperator}
use Rattle.high_ir.specs.declared.expression.UnaryOperator.TheVariants.{Negate, Complement, IsZero, Convert}
use Rattle.high_ir.specs.declared.expression.BinaryOperator.{BinaryOperator}
use Rattle.high_ir.specs.declared.expression.BinaryOperator.TheVariants.{Add, Subtract, Multiply, Divide, DivideUnsigned, Remainder, RemainderUnsigned, And, Or, Xor, ShiftLeft, ShiftRight, ShiftRightUnsigned, Equal, NotEqual, Less, LessUnsigned, AtLeast, AtLeastUnsigned}
use Rattle.low_ir.specs.Code.{Operand, Register, Constant, Set, Operate, Instr, Do, Note}

abbrev pub Code : Type 0
Code = List (Instr ℕ Note)

abbrev pub operate : Alu → ℕ → Operand ℕ → Operand ℕ → Instr ℕ Note
operate operator d x y = Do (Operate operator d x y)

abbrev pub only : Instr ℕ Note → Code
only i = i ∷ []

-- the two's complement of a word
abbrev pub negated : ℕ → ℕ
negated w = (2 ^ 32 - w) % 2 ^ 32

-- the exponent of a word that is a power of two, below a bound
abbrev pub exponent_below : ℕ → ℕ → Option ℕ
exponent_below zero w = None
exponent_below (suc n) w = if 2 ^ n == w then Some n else exponent_below n w

unfoldable pub exponent_of : ℕ → Option ℕ
exponent_of w = exponent_below 32 w

-- an operator that takes its operands in any order: a constant stands to the right
abbrev pub in_order : Alu → ℕ → Operand ℕ → Operand ℕ → Instr ℕ Note
in_order operator d (Register r) y = operate operator d (Register r) y
in_order operator d (Constant w) y = operate operator d y (Constant w)

-- a difference from a constant is a sum
abbrev pub difference : ℕ → Operand ℕ → Operand ℕ → Instr ℕ Note
difference d x (Register r) = operate alu.Difference d x (Register r)
difference d x (Constant w) = operate alu.Sum d x (Constant (negated w))

-- by a power of two, a product and a quotient are shifts, and a remainder keeps low bits
abbrev pub shifted : Alu → Alu → ℕ → Operand ℕ → ℕ → Option ℕ → Instr ℕ Note
shifted operator shift d x w None = operate operator d x (Constant w)
shifted operator shift d x w (Some k) = operate shift d x (Constant k)

abbrev pub masked : ℕ → Operand ℕ → ℕ → Option ℕ → Instr ℕ Note
masked d x w None = operate alu.RemainderUnsigned d x (Constant w)
masked d x w (Some k) = operate alu.BitAnd d x (Constant (w - 1))

abbrev pub times : ℕ → Operand ℕ → ℕ → Instr ℕ Note
times d x w = shifted alu.Product alu.ShiftLeft d x w (exponent_of w)

abbrev pub product : ℕ → Operand ℕ → Operand ℕ → Instr ℕ Note
product d (Register r) (Register s) = operate alu.Product d (Register r) (Register s)
product d (Register r) (Constant w) = times d (Register r) w
product d (Constant w) y = times d y w

abbrev pub quotient_unsigned : ℕ → Operand ℕ → Operand ℕ → Instr ℕ Note
quotient_unsigned d x (Register r) = operate alu.QuotientUnsigned d x (Register r)
quotient_unsigned d x (Constant w) = shifted alu.QuotientUnsigned alu.ShiftRight d x w (exponent_of w)

abbrev pub remainder_unsigned : ℕ → Operand ℕ → Operand ℕ → Instr ℕ Note
remainder_unsigned d x (Register r) = operate alu.RemainderUnsigned d x (Register r)
remainder_unsigned d x (Constant w) = masked d x w (exponent_of w)

-- the exponent of a divisor with a sign that is a power of two above 1
abbrev pub above_one : Option ℕ → Option ℕ
above_one None = None
above_one (Some zero) = None
above_one (Some (suc k)) = Some (suc k)

unfoldable pub divisor_exponent : ℕ → Option ℕ
divisor_exponent w = above_one (exponent_below 31 w)

-- a quotient that is rounded towards zero: what is negative gets 2^k - 1 more, and then the bits go down
abbrev pub by_bias : (k d t : ℕ) → Operand ℕ → Code
by_bias k d t x =
    operate alu.ShiftRightSigned t x (Constant 31)
    ∷ operate alu.ShiftRight t (Register t) (Constant (32 - k))
    ∷ operate alu.Sum t x (Register t)
    ∷ only (operate alu.ShiftRightSigned d (Register t) (Constant k))

abbrev pub divided : (d t : ℕ) → Operand ℕ → ℕ → Option ℕ → Code
divided d t x w None = only (operate alu.Quotient d x (Constant w))
divided d t x w (Some k) = by_bias k d t x

abbrev pub quotient : Bool → (d t : ℕ) → Operand ℕ → Operand ℕ → Code
quotient false d t x y = only (operate alu.Quotient d x y)
quotient true d t x (Register r) = only (operate alu.Quotient d x (Register r))
quotient true d t x (Constant w) = divided d t x w (divisor_exponent w)

abbrev pub is_zero : ℕ → Operand ℕ → Instr ℕ Note
is_zero d x = operate alu.IsLessUnsigned d x (Constant 1)

abbrev pub isnt_zero : ℕ → Operand ℕ → Instr ℕ Note
isnt_zero d x = operate alu.IsLessUnsigned d (Constant 0) x

-- 1 for 0, and 0 for 1
abbrev pub untrue : ℕ → Operand ℕ → Instr ℕ Note
untrue d x = operate alu.BitXor d x (Constant 1)

-- where a quotient may be several instructions, or may not
abbrev pub binary_code : (shifts : Bool) → BinaryOperator → (d t : ℕ) → (x y : Operand ℕ) → Code
binary_code shifts Add d t x y = only (in_order alu.Sum d x y)
binary_code shifts Subtract d t x y = only (difference d x y)
binary_code shifts Multiply d t x y = only (product d x y)
binary_code shifts Divide d t x y = quotient shifts d t x y
binary_code shifts DivideUnsigned d t x y = only (quotient_unsigned d x y)
binary_code shifts Remainder d t x y = only (operate alu.Remainder d x y)
binary_code shifts RemainderUnsigned d t x y = only (remainder_unsigned d x y)
binary_code shifts And d t x y = only (in_order alu.BitAnd d x y)
binary_code shifts Or d t x y = only (in_order alu.BitOr d x y)
binary_code shifts Xor d t x y = only (in_order alu.BitXor d x y)
binary_code shifts ShiftLeft d t x y = only (operate alu.ShiftLeft d x y)
binary_code shifts ShiftRight d t x y = only (operate alu.ShiftRightSigned d x y)
binary_code shifts ShiftRightUnsigned d t x y = only (operate alu.ShiftRight d x y)
binary_code shifts Equal d t x y = in_order alu.BitXor t x y ∷ only (is_zero d (Register t))
binary_code shifts NotEqual d t x y = in_order alu.BitXor t x y ∷ only (isnt_zero d (Register t))
binary_code shifts Less d t x y = only (operate alu.IsLess d x y)
binary_code shifts LessUnsigned d t x y = only (operate alu.IsLessUnsigned d x y)
binary_code shifts AtLeast d t x y = operate alu.IsLess t x y ∷ only (untrue d (Register t))
binary_code shifts AtLeastUnsigned d t x y = operate alu.IsLessUnsigned t x y ∷ only (untrue d (Register t))

-- how many registers of their own its instructions need
abbrev pub binary_needs : BinaryOperator → ℕ
binary_needs Divide = 1
binary_needs Equal = 1
binary_needs NotEqual = 1
binary_needs AtLeast = 1
binary_needs AtLeastUnsigned = 1
binary_needs other = 0

-- the low bits, moved up and down again
abbrev pub by_shifts : Alu → (bits : ℕ) → (d t : ℕ) → Operand ℕ → Code
by_shifts back bits d t x = operate alu.ShiftLeft t x (Constant bits) ∷ only (operate back d (Register t) (Constant bits))

abbrev pub convert_code : Kind → (d t : ℕ) → Operand ℕ → Code
convert_code Unsigned8 d t x = only (operate alu.BitAnd d x (Constant 255))
convert_code Signed8 d t x = by_shifts alu.ShiftRightSigned 24 d t x
convert_code Unsigned16 d t x = by_shifts alu.ShiftRight 16 d t x
convert_code Signed16 d t x = by_shifts alu.ShiftRightSigned 16 d t x
convert_code Word d t x = only (Do (Set d x))

abbrev pub convert_needs : Kind → ℕ
convert_needs Unsigned8 = 0
convert_needs Signed8 = 1
convert_needs Unsigned16 = 1
convert_needs Signed16 = 1
convert_needs Word = 0

abbrev pub unary_code : UnaryOperator → (d t : ℕ) → Operand ℕ → Code
unary_code Negate d t x = only (operate alu.Difference d (Constant 0) x)
unary_code Complement d t x = only (operate alu.BitXor d x (Constant (2 ^ 32 - 1)))
unary_code IsZero d t x = only (is_zero d x)
unary_code (Convert kind) d t x = convert_code kind d t x

abbrev pub unary_needs : UnaryOperator → ℕ
unary_needs Negate = 0
unary_needs Complement = 0
unary_needs IsZero = 0
unary_needs (Convert kind) = convert_needs kind

-- the branch that an operator is
abbrev pub condition_of : BinaryOperator → Option Condition
condition_of Equal = Some conditions.Equal
condition_of NotEqual = Some conditions.NotEqual
condition_of Less = Some conditions.Less
condition_of LessUnsigned = Some conditions.LessUnsigned
condition_of AtLeast = Some conditions.AtLeast
condition_of AtLeastUnsigned = Some conditions.AtLeastUnsigned
condition_of other = None

-- the branch that is taken where another one isn't
abbrev pub inverse : Condition → Condition
inverse conditions.Equal = conditions.NotEqual
inverse conditions.NotEqual = conditions.Equal
inverse conditions.Less = conditions.AtLeast
inverse conditions.AtLeast = conditions.Less
inverse conditions.LessUnsigned = conditions.AtLeastUnsigned
inverse conditions.AtLeastUnsigned = conditions.LessUnsigned
