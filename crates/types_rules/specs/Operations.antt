-- Operators of the source as operators on values, and the types at which they compute (C11 6.5.3.3, 6.5.5 to 6.5.16).
use Rattle.std.specs.Prelude.{Option, Some, None}
use Rattle.c_tree.specs.declared.expression.AssignOperator.{AssignOperator}
use Rattle.c_tree.specs.declared.expression.AssignOperator.TheVariants as assigns
use Rattle.c_tree.specs.declared.expression.BinaryOperator.{BinaryOperator}
use Rattle.c_tree.specs.declared.expression.BinaryOperator.TheVariants as binary
use Rattle.c_tree.specs.declared.expression.PrefixOperator.{PrefixOperator}
use Rattle.c_tree.specs.declared.expression.PrefixOperator.TheVariants as prefix
use Rattle.c_tree.specs.declared.token.ConstantType.{ConstantType}
use Rattle.c_tree.specs.declared.token.ConstantType.TheVariants as constants
use Rattle.types_value.specs.Kinds.{common, promoted}
use Rattle.types_value.specs.declared.kind.Kind.{Kind}
use Rattle.types_value.specs.declared.kind.Kind.TheVariants.{Int, Unsigned, Long}
use Rattle.types_value.specs.declared.operator.Operator.{Operator}
use Rattle.types_value.specs.declared.operator.Operator.TheVariants.{Multiply, Divide, Remainder, Add, Subtract, ShiftLeft, ShiftRight, Less, Greater, LessEqual, GreaterEqual, Equal, NotEqual, BitAnd, BitXor, BitOr}
use Rattle.types_value.specs.declared.operator.Sign.{Sign}
use Rattle.types_value.specs.declared.operator.Sign.TheVariants.{Negate, Plus, Complement, Not}

abbrev pub constant_kind : ConstantType → Kind
constant_kind constants.Int = Int
constant_kind constants.Long = Long
constant_kind constants.Unsigned = Unsigned

-- the operators that evaluate both operands
abbrev pub operator_of : BinaryOperator → Option Operator
operator_of binary.Multiply = Some Multiply
operator_of binary.Divide = Some Divide
operator_of binary.Remainder = Some Remainder
operator_of binary.Add = Some Add
operator_of binary.Subtract = Some Subtract
operator_of binary.ShiftLeft = Some ShiftLeft
operator_of binary.ShiftRight = Some ShiftRight
operator_of binary.Less = Some Less
operator_of binary.Greater = Some Greater
operator_of binary.LessEqual = Some LessEqual
operator_of binary.GreaterEqual = Some GreaterEqual
operator_of binary.Equal = Some Equal
operator_of binary.NotEqual = Some NotEqual
operator_of binary.BitAnd = Some BitAnd
operator_of binary.BitXor = Some BitXor
operator_of binary.BitOr = Some BitOr
operator_of _ = None

-- the operator of a compound assignment
abbrev pub update_of : AssignOperator → Option Operator
update_of assigns.Assign = None
update_of assigns.Multiply = Some Multiply
update_of assigns.Divide = Some Divide
update_of assigns.Remainder = Some Remainder
update_of assigns.Add = Some Add
update_of assigns.Subtract = Some Subtract
update_of assigns.ShiftLeft = Some ShiftLeft
update_of assigns.ShiftRight = Some ShiftRight
update_of assigns.BitAnd = Some BitAnd
update_of assigns.BitXor = Some BitXor
update_of assigns.BitOr = Some BitOr

-- the prefix operators that write nothing
abbrev pub sign_of : PrefixOperator → Option Sign
sign_of prefix.Negate = Some Negate
sign_of prefix.Plus = Some Plus
sign_of prefix.Complement = Some Complement
sign_of prefix.Not = Some Not
sign_of _ = None

-- the type at which an operator computes, to which its left operand is converted
abbrev pub left_kind : Operator → Kind → Kind → Kind
left_kind ShiftLeft a b = promoted a
left_kind ShiftRight a b = promoted a
left_kind _ a b = common a b

-- the type to which its right operand is converted
abbrev pub right_kind : Operator → Kind → Kind → Kind
right_kind ShiftLeft a b = promoted b
right_kind ShiftRight a b = promoted b
right_kind _ a b = common a b

-- the type of its value
abbrev pub value_kind : Operator → Kind → Kind → Kind
value_kind Less a b = Int
value_kind Greater a b = Int
value_kind LessEqual a b = Int
value_kind GreaterEqual a b = Int
value_kind Equal a b = Int
value_kind NotEqual a b = Int
value_kind operator a b = left_kind operator a b

-- the type of the value of an operator before an operand
abbrev pub sign_kind : Sign → Kind → Kind
sign_kind Not a = Int
sign_kind _ a = promoted a
