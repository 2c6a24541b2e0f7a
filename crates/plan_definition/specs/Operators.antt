-- Operators and conversions of the source, in the high form.
use Rattle.std.specs.Prelude.{Bool, true, false}
use Rattle.types_value.specs.declared.kind.Kind.{Kind as CType}
use Rattle.types_value.specs.declared.kind.Kind.TheVariants as types
use Rattle.types_value.specs.declared.operator.Operator.{Operator}
use Rattle.types_value.specs.declared.operator.Operator.TheVariants as operators
use Rattle.types_value.specs.declared.operator.Sign.{Sign}
use Rattle.types_value.specs.declared.operator.Sign.TheVariants as signs
use Rattle.high_ir.specs.declared.object.Kind.{Kind}
use Rattle.high_ir.specs.declared.object.Kind.TheVariants.{Unsigned8, Signed8, Unsigned16, Signed16, Word}
use Rattle.high_ir.specs.declared.expression.UnaryOperator.TheVariants as unary
use Rattle.high_ir.specs.declared.expression.BinaryOperator.TheVariants as binary
use Rattle.high_ir.specs.Tree.{Expr, Unary, Binary}

-- what elements of a type are
abbrev pub kind_of : CType → Kind
kind_of types.Char = Unsigned8
kind_of types.SignedChar = Signed8
kind_of types.UnsignedChar = Unsigned8
kind_of types.Short = Signed16
kind_of types.UnsignedShort = Unsigned16
kind_of _ = Word

-- a conversion to a kind, which to a whole word is none
abbrev pub convert_to : Kind → Expr → Expr
convert_to Word e = e
convert_to kind e = Unary (unary.Convert kind) e

abbrev pub convert : CType → Expr → Expr
convert to e = convert_to (kind_of to) e

abbrev pub signed : Sign → Expr → Expr
signed signs.Negate e = Unary unary.Negate e
signed signs.Plus e = e
signed signs.Complement e = Unary unary.Complement e
signed signs.Not e = Unary unary.IsZero e

-- of types with a sign, or without one
abbrev pub operated : Operator → (is_signed : Bool) → (left right : Expr) → Expr
operated operators.Multiply s x y = Binary binary.Multiply x y
operated operators.Divide true x y = Binary binary.Divide x y
operated operators.Divide false x y = Binary binary.DivideUnsigned x y
operated operators.Remainder true x y = Binary binary.Remainder x y
operated operators.Remainder false x y = Binary binary.RemainderUnsigned x y
operated operators.Add s x y = Binary binary.Add x y
operated operators.Subtract s x y = Binary binary.Subtract x y
operated operators.ShiftLeft s x y = Binary binary.ShiftLeft x y
operated operators.ShiftRight true x y = Binary binary.ShiftRight x y
operated operators.ShiftRight false x y = Binary binary.ShiftRightUnsigned x y
operated operators.Less true x y = Binary binary.Less x y
operated operators.Less false x y = Binary binary.LessUnsigned x y
operated operators.Greater true x y = Binary binary.Less y x
operated operators.Greater false x y = Binary binary.LessUnsigned y x
operated operators.LessEqual true x y = Binary binary.AtLeast y x
operated operators.LessEqual false x y = Binary binary.AtLeastUnsigned y x
operated operators.GreaterEqual true x y = Binary binary.AtLeast x y
operated operators.GreaterEqual false x y = Binary binary.AtLeastUnsigned x y
operated operators.Equal s x y = Binary binary.Equal x y
operated operators.NotEqual s x y = Binary binary.NotEqual x y
operated operators.BitAnd s x y = Binary binary.And x y
operated operators.BitXor s x y = Binary binary.Xor x y
operated operators.BitOr s x y = Binary binary.Or x y
