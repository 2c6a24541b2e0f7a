-- What the form of an expression tells of its values.
use Rattle.std.specs.Prelude.{ℕ, ◌-◌, Bool, true, false, ◌&&◌, ◌||◌, ◌==◌, nat_le, nat_lt}
use Rattle.high_ir.specs.declared.object.Kind.{Kind}
use Rattle.high_ir.specs.declared.object.Kind.TheVariants.{Unsigned8, Signed8, Unsigned16, Signed16, Word}
use Rattle.high_ir.specs.declared.expression.UnaryOperator.{UnaryOperator}
use Rattle.high_ir.specs.declared.expression.UnaryOperator.TheVariants.{Negate, Complement, IsZero, Convert}
use Rattle.high_ir.specs.declared.expression.BinaryOperator.{BinaryOperator}
use Rattle.high_ir.specs.declared.expression.BinaryOperator.TheVariants.{Add, Subtract, Multiply, Divide, DivideUnsigned, Remainder, RemainderUnsigned, And, Or, Xor, ShiftLeft, ShiftRight, ShiftRightUnsigned, Equal, NotEqual, Less, LessUnsigned, AtLeast, AtLeastUnsigned}
use Rattle.high_ir.specs.Tree.{Expr, Constant, Variable, Element, Unary, Binary}

-- a kind keeps the words up to `most`, and of those with their sign set the last `below`
abbrev pub most : Kind → ℕ
most Unsigned8 = 255
most Signed8 = 127
most Unsigned16 = 65535
most Signed16 = 32767
most Word = 4294967295

abbrev pub below : Kind → ℕ
below Unsigned8 = 0
below Signed8 = 128
below Unsigned16 = 0
below Signed16 = 32768
below Word = 4294967295

-- what the first kind keeps, the second keeps as it is
abbrev pub is_within : Kind → Kind → Bool
is_within narrow wide = nat_le (most narrow) (most wide) && nat_le (below narrow) (below wide)

-- the bits of an element
abbrev pub bits : Kind → ℕ
bits Unsigned8 = 8
bits Signed8 = 8
bits Unsigned16 = 16
bits Signed16 = 16
bits Word = 32

-- a constant that masks all but numbers that the kind keeps
abbrev pub is_mask : Kind → Expr → Bool
is_mask kind (Constant word) = nat_le word (most kind)
is_mask kind (Variable x) = false
is_mask kind (Element array index) = false
is_mask kind (Unary operator operand) = false
is_mask kind (Binary operator left right) = false

abbrev pub is_divisor_within : Kind → ℕ → Bool
is_divisor_within kind word = nat_lt 0 word && nat_le (word - 1) (most kind)

-- a constant whose remainders the kind keeps
abbrev pub is_divisor : Kind → Expr → Bool
is_divisor kind (Constant word) = is_divisor_within kind word
is_divisor kind (Variable x) = false
is_divisor kind (Element array index) = false
is_divisor kind (Unary operator operand) = false
is_divisor kind (Binary operator left right) = false

-- each value of an operator between these operands is kept
abbrev pub operator_fits : Kind → BinaryOperator → (left right : Expr) → Bool
operator_fits kind Equal left right = true
operator_fits kind NotEqual left right = true
operator_fits kind Less left right = true
operator_fits kind LessUnsigned left right = true
operator_fits kind AtLeast left right = true
operator_fits kind AtLeastUnsigned left right = true
operator_fits kind And left right = is_mask kind left || is_mask kind right
operator_fits kind RemainderUnsigned left right = is_divisor kind right
operator_fits kind Add left right = false
operator_fits kind Subtract left right = false
operator_fits kind Multiply left right = false
operator_fits kind Divide left right = false
operator_fits kind DivideUnsigned left right = false
operator_fits kind Remainder left right = false
operator_fits kind Or left right = false
operator_fits kind Xor left right = false
operator_fits kind ShiftLeft left right = false
operator_fits kind ShiftRight left right = false
operator_fits kind ShiftRightUnsigned left right = false

abbrev pub unary_fits : Kind → UnaryOperator → Bool
unary_fits kind (Convert narrow) = is_within narrow kind
unary_fits kind IsZero = true
unary_fits kind Negate = false
unary_fits kind Complement = false

-- each value of the expression is one that the kind keeps as it is
abbrev pub fits : Kind → Expr → Bool
fits kind (Constant word) = false
fits kind (Variable x) = false
fits kind (Element array index) = is_within array.kind kind
fits kind (Unary operator operand) = unary_fits kind operator
fits kind (Binary operator left right) = operator_fits kind operator left right

-- an operator before an operand that it gives back
abbrev pub is_idle : UnaryOperator → Expr → Bool
is_idle (Convert kind) operand = fits kind operand
is_idle IsZero operand = false
is_idle Negate operand = false
is_idle Complement operand = false

-- a kind that is narrower than a word
abbrev pub is_narrow : Kind → Bool
is_narrow kind = nat_le (most kind) 65535

abbrev pub unary_is_word : UnaryOperator → Bool
unary_is_word (Convert kind) = is_narrow kind
unary_is_word IsZero = true
unary_is_word Negate = true
unary_is_word Complement = false

abbrev pub operator_is_word : BinaryOperator → Bool
operator_is_word Add = true
operator_is_word Subtract = true
operator_is_word Multiply = true
operator_is_word Divide = true
operator_is_word ShiftLeft = true
operator_is_word ShiftRight = true
operator_is_word Equal = true
operator_is_word NotEqual = true
operator_is_word Less = true
operator_is_word LessUnsigned = true
operator_is_word AtLeast = true
operator_is_word AtLeastUnsigned = true
operator_is_word DivideUnsigned = false
operator_is_word Remainder = false
operator_is_word RemainderUnsigned = false
operator_is_word And = false
operator_is_word Or = false
operator_is_word Xor = false
operator_is_word ShiftRightUnsigned = false

-- each value of the expression is a word
abbrev pub is_word : Expr → Bool
is_word (Constant word) = false
is_word (Variable x) = false
is_word (Element array index) = is_narrow array.kind
is_word (Unary operator operand) = unary_is_word operator
is_word (Binary operator left right) = operator_is_word operator

-- an operator that gives back its left side, whatever number it is, where its right side is this constant
abbrev pub is_neutral : BinaryOperator → ℕ → Bool
is_neutral Or word = word == 0
is_neutral Xor word = word == 0
is_neutral ShiftRightUnsigned word = word == 0
is_neutral DivideUnsigned word = word == 1
is_neutral Add word = false
is_neutral Subtract word = false
is_neutral Multiply word = false
is_neutral Divide word = false
is_neutral Remainder word = false
is_neutral RemainderUnsigned word = false
is_neutral And word = false
is_neutral ShiftLeft word = false
is_neutral ShiftRight word = false
is_neutral Equal word = false
is_neutral NotEqual word = false
is_neutral Less word = false
is_neutral LessUnsigned word = false
is_neutral AtLeast word = false
is_neutral AtLeastUnsigned word = false

-- the same where its left side is a word
abbrev pub is_word_neutral : BinaryOperator → ℕ → Bool
is_word_neutral Add word = word == 0
is_word_neutral Subtract word = word == 0
is_word_neutral Multiply word = word == 1
is_word_neutral ShiftLeft word = word == 0
is_word_neutral ShiftRight word = word == 0
is_word_neutral And word = word == 4294967295
is_word_neutral Or word = false
is_word_neutral Xor word = false
is_word_neutral ShiftRightUnsigned word = false
is_word_neutral DivideUnsigned word = false
is_word_neutral Divide word = false
is_word_neutral Remainder word = false
is_word_neutral RemainderUnsigned word = false
is_word_neutral Equal word = false
is_word_neutral NotEqual word = false
is_word_neutral Less word = false
is_word_neutral LessUnsigned word = false
is_word_neutral AtLeast word = false
is_word_neutral AtLeastUnsigned word = false

-- operators whose sides may be turned
abbrev pub is_commutative : BinaryOperator → Bool
is_commutative Add = true
is_commutative Multiply = true
is_commutative And = true
is_commutative Or = true
is_commutative Xor = true
is_commutative Subtract = false
is_commutative Divide = false
is_commutative DivideUnsigned = false
is_commutative Remainder = false
is_commutative RemainderUnsigned = false
is_commutative ShiftLeft = false
is_commutative ShiftRight = false
is_commutative ShiftRightUnsigned = false
is_commutative Equal = false
is_commutative NotEqual = false
is_commutative Less = false
is_commutative LessUnsigned = false
is_commutative AtLeast = false
is_commutative AtLeastUnsigned = false

-- an operator that gives back its left side where its right side is this constant, and the other way round
abbrev pub gives_left : BinaryOperator → Expr → ℕ → Bool
gives_left operator left word = is_neutral operator word || (is_word left && is_word_neutral operator word)

abbrev pub gives_right : BinaryOperator → ℕ → Expr → Bool
gives_right operator word right = is_commutative operator && gives_left operator right word

-- a conversion whose effect a store into elements of a kind loses
abbrev pub is_lost : Kind → UnaryOperator → Bool
is_lost kind (Convert wide) = nat_le (bits kind) (bits wide)
is_lost kind IsZero = false
is_lost kind Negate = false
is_lost kind Complement = false
