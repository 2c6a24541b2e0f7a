-- Code that has an instruction.
use Rattle.std.proofs.Common.{◌≢◌, ℕ, Bool, true, false, List, [], ◌∷◌, ◌++◌, Option, Some, None}
use Rattle.high_ir.specs.declared.object.Kind.{Kind as HighKind}
use Rattle.high_ir.specs.declared.object.Kind.TheVariants as kinds
use Rattle.high_ir.specs.declared.expression.UnaryOperator.{UnaryOperator}
use Rattle.high_ir.specs.declared.expression.UnaryOperator.TheVariants.{Negate, Complement, IsZero, Convert}
use Rattle.high_ir.specs.declared.expression.BinaryOperator.{BinaryOperator}
use Rattle.high_ir.specs.declared.expression.BinaryOperator.TheVariants.{Add, Subtract, Multiply, Divide, DivideUnsigned, Remainder, RemainderUnsigned, And, Or, Xor, ShiftLeft, ShiftRight, ShiftRightUnsigned, Equal, NotEqual, Less, LessUnsigned, AtLeast, AtLeastUnsigned}
use Rattle.high_ir.specs.Tree.{Expr, Constant, Variable, Element, Unary, Binary}
use Rattle.low_ir.specs.Code.{Operand, Register, Constant as Literal, Base, Load, Do}
use Rattle.low_ir.specs.declared.object.Kind.{Kind}
use Rattle.lower_definition.specs.Objects.{kind_of, scale_of}
use Rattle.lower_definition.specs.Operators.{Code, only, binary_code, convert_code, divided, divisor_exponent, quotient, unary_code}
use Rattle.lower_definition.specs.Values.{Scope, Share, Offset, address, base_of, index_of, load_into, offset_of, operand, value_into}

-- an instruction is something
abbrev pub Filled : Code → Type 0
Filled [] = ⊥
Filled (i ∷ is) = Unit {0}

pub filled_some : (c : Code) → Filled c → c ≢ []
filled_some [] h e = absurd h
filled_some (i ∷ is) h e = cc

pub filled_behind : (a b : Code) → Filled b → Filled (a ++ b)
filled_behind [] b h = h
filled_behind (i ∷ is) b h = tt

divided_filled : (d t : ℕ) (x : Operand ℕ) (w : ℕ) (o : Option ℕ) → Filled (divided d t x w o)
divided_filled d t x w None = tt
divided_filled d t x w (Some k) = tt

quotient_filled : (shifts : Bool) (d t : ℕ) (x y : Operand ℕ) → Filled (quotient shifts d t x y)
quotient_filled false d t x y = tt
quotient_filled true d t x (Register r) = tt
quotient_filled true d t x (Literal w) = divided_filled d t x w (divisor_exponent w)

binary_filled : (shifts : Bool) (operator : BinaryOperator) (d t : ℕ) (x y : Operand ℕ) → Filled (binary_code shifts operator d t x y)
binary_filled shifts Add d t x y = tt
binary_filled shifts Subtract d t x y = tt
binary_filled shifts Multiply d t x y = tt
binary_filled shifts Divide d t x y = quotient_filled shifts d t x y
binary_filled shifts DivideUnsigned d t x y = tt
binary_filled shifts Remainder d t x y = tt
binary_filled shifts RemainderUnsigned d t x y = tt
binary_filled shifts And d t x y = tt
binary_filled shifts Or d t x y = tt
binary_filled shifts Xor d t x y = tt
binary_filled shifts ShiftLeft d t x y = tt
binary_filled shifts ShiftRight d t x y = tt
binary_filled shifts ShiftRightUnsigned d t x y = tt
binary_filled shifts Equal d t x y = tt
binary_filled shifts NotEqual d t x y = tt
binary_filled shifts Less d t x y = tt
binary_filled shifts LessUnsigned d t x y = tt
binary_filled shifts AtLeast d t x y = tt
binary_filled shifts AtLeastUnsigned d t x y = tt

convert_filled : (kind : HighKind) (d t : ℕ) (x : Operand ℕ) → Filled (convert_code kind d t x)
convert_filled kinds.Unsigned8 d t x = tt
convert_filled kinds.Signed8 d t x = tt
convert_filled kinds.Unsigned16 d t x = tt
convert_filled kinds.Signed16 d t x = tt
convert_filled kinds.Word d t x = tt

unary_filled : (operator : UnaryOperator) (d t : ℕ) (x : Operand ℕ) → Filled (unary_code operator d t x)
unary_filled Negate d t x = tt
unary_filled Complement d t x = tt
unary_filled IsZero d t x = tt
unary_filled (Convert kind) d t x = convert_filled kind d t x

load_filled : (kind : Kind) (d : ℕ) (b : Option (Base ℕ)) (o : Offset) → Filled (load_into kind d b o).code
load_filled kind d None o = tt
load_filled kind d (Some b) o = filled_behind o.code (only (Do (Load kind d (address b o)))) tt

pub into_filled : (scope : Scope) (shares : List Share) (e : Expr) (d t : ℕ) → Filled (value_into scope shares e d t).code
into_filled scope shares (Constant w) d t = tt
into_filled scope shares (Variable x) d t = tt
into_filled scope shares (Element array index) d t =
    load_filled (kind_of array.kind) d (base_of scope array.base) (offset_of shares (scale_of array.kind) (index_of scope shares index t))
into_filled scope shares (Unary operator e) d t =
    let x = operand scope shares e t in
    filled_behind x.code (unary_code operator d x.free x.value) (unary_filled operator d x.free x.value)
into_filled scope shares (Binary operator left right) d t =
    let x = operand scope shares left t in
    let y = operand scope shares right x.free in
    let own = binary_code scope.shifts operator d y.free x.value y.value in
    filled_behind x.code (y.code ++ own) (filled_behind y.code own (binary_filled scope.shifts operator d y.free x.value y.value))
