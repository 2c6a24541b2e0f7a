-- What the instructions of operators cost.
use Rattle.std.proofs.Common.{◌≡◌, ℕ, ◌+◌, ◌*◌, ◌≤◌, Bool, true, false, [], ◌∷◌, ◌++◌, Option, Some, None, refl, arith}
use Rattle.rv_core.specs.declared.row.Alu.{Alu}
use Rattle.rv_core.specs.declared.row.Alu.TheVariants as alu
use Rattle.high_ir.specs.declared.object.Kind.{Kind}
use Rattle.high_ir.specs.declared.object.Kind.TheVariants.{Unsigned8, Signed8, Unsigned16, Signed16, Word}
use Rattle.high_ir.specs.declared.expression.UnaryOperator.{UnaryOperator}
use Rattle.high_ir.specs.declared.expression.UnaryOperator.TheVariants.{Negate, Complement, IsZero, Convert}
use Rattle.high_ir.specs.declared.expression.BinaryOperator.{BinaryOperator}
use Rattle.high_ir.specs.declared.expression.BinaryOperator.TheVariants.{Add, Subtract, Multiply, Divide, DivideUnsigned, Remainder, RemainderUnsigned, And, Or, Xor, ShiftLeft, ShiftRight, ShiftRightUnsigned, Equal, NotEqual, Less, LessUnsigned, AtLeast, AtLeastUnsigned}
use Rattle.low_ir.specs.Code.{Operand, Register, Constant}
use Rattle.lower_definition.specs.Operators.{Code, binary_code, binary_needs, convert_code, convert_needs, difference, divided, divisor_exponent, exponent_of, in_order, masked, product, quotient, quotient_unsigned, remainder_unsigned, shifted, unary_code, unary_needs}
use Rattle.lower_budget.specs.Costs.{code_worth, instr_worth}
use Rattle.lower_budget.proofs.Amounts.{of_leaf}

-- what an operand leaves of what pays for it
abbrev pub spared : Bool → Operand ℕ → ℕ
spared shifts (Register r) = 0
spared shifts (Constant w) = 16 * of_leaf shifts

module _ (worth : ℕ → ℕ) where
  pub code_worth-append : (xs ys : Code) → code_worth worth (xs ++ ys) ≡ code_worth worth xs + code_worth worth ys
  code_worth-append [] ys = omega arith
  code_worth-append (x ∷ xs) ys = let h = code_worth-append xs ys in omega (arith, h)

  in_order_room : (operator : Alu) (d : ℕ) (x y : Operand ℕ) → instr_worth worth (in_order operator d x y) ≡ 7
  in_order_room operator d (Register r) y = refl
  in_order_room operator d (Constant w) y = refl

  difference_room : (d : ℕ) (x y : Operand ℕ) → instr_worth worth (difference d x y) ≡ 7
  difference_room d x (Register r) = refl
  difference_room d x (Constant w) = refl

  shifted_room : (operator shift : Alu) (d : ℕ) (x : Operand ℕ) (w : ℕ) (o : Option ℕ) → instr_worth worth (shifted operator shift d x w o) ≡ 7
  shifted_room operator shift d x w None = refl
  shifted_room operator shift d x w (Some k) = refl

  masked_room : (d : ℕ) (x : Operand ℕ) (w : ℕ) (o : Option ℕ) → instr_worth worth (masked d x w o) ≡ 7
  masked_room d x w None = refl
  masked_room d x w (Some k) = refl

  product_room : (d : ℕ) (x y : Operand ℕ) → instr_worth worth (product d x y) ≡ 7
  product_room d (Register r) (Register s) = refl
  product_room d (Register r) (Constant w) = shifted_room alu.Product alu.ShiftLeft d (Register r) w (exponent_of w)
  product_room d (Constant w) y = shifted_room alu.Product alu.ShiftLeft d y w (exponent_of w)

  quotient_room : (d : ℕ) (x y : Operand ℕ) → instr_worth worth (quotient_unsigned d x y) ≡ 7
  quotient_room d x (Register r) = refl
  quotient_room d x (Constant w) = shifted_room alu.QuotientUnsigned alu.ShiftRight d x w (exponent_of w)

  remainder_room : (d : ℕ) (x y : Operand ℕ) → instr_worth worth (remainder_unsigned d x y) ≡ 7
  remainder_room d x (Register r) = refl
  remainder_room d x (Constant w) = masked_room d x w (exponent_of w)

  divided_room : (d t : ℕ) (x : Operand ℕ) (w : ℕ) (o : Option ℕ) → code_worth worth (divided d t x w o) ≤ 30
  divided_room d t x w None = omega arith
  divided_room d t x w (Some k) = omega arith

  signed_room : (shifts : Bool) (d t : ℕ) (x y : Operand ℕ) → code_worth worth (quotient shifts d t x y) ≤ 14 + spared shifts y
  signed_room false d t x y = omega arith
  signed_room true d t x (Register r) = omega arith
  signed_room true d t x (Constant w) = divided_room d t x w (divisor_exponent w)

  -- a quotient by a constant may take what that constant doesn't
  pub binary_room : (shifts : Bool) (operator : BinaryOperator) (d t : ℕ) (x y : Operand ℕ) → code_worth worth (binary_code shifts operator d t x y) ≤ 14 + spared shifts y
  binary_room shifts Add d t x y = let e = in_order_room alu.Sum d x y in omega (arith, e)
  binary_room shifts Subtract d t x y = let e = difference_room d x y in omega (arith, e)
  binary_room shifts Multiply d t x y = let e = product_room d x y in omega (arith, e)
  binary_room shifts Divide d t x y = signed_room shifts d t x y
  binary_room shifts DivideUnsigned d t x y = let e = quotient_room d x y in omega (arith, e)
  binary_room shifts Remainder d t x y = omega arith
  binary_room shifts RemainderUnsigned d t x y = let e = remainder_room d x y in omega (arith, e)
  binary_room shifts And d t x y = let e = in_order_room alu.BitAnd d x y in omega (arith, e)
  binary_room shifts Or d t x y = let e = in_order_room alu.BitOr d x y in omega (arith, e)
  binary_room shifts Xor d t x y = let e = in_order_room alu.BitXor d x y in omega (arith, e)
  binary_room shifts ShiftLeft d t x y = omega arith
  binary_room shifts ShiftRight d t x y = omega arith
  binary_room shifts ShiftRightUnsigned d t x y = omega arith
  binary_room shifts Equal d t x y = let e = in_order_room alu.BitXor t x y in omega (arith, e)
  binary_room shifts NotEqual d t x y = let e = in_order_room alu.BitXor t x y in omega (arith, e)
  binary_room shifts Less d t x y = omega arith
  binary_room shifts LessUnsigned d t x y = omega arith
  binary_room shifts AtLeast d t x y = omega arith
  binary_room shifts AtLeastUnsigned d t x y = omega arith

  convert_room : (kind : Kind) (d t : ℕ) (x : Operand ℕ) → code_worth worth (convert_code kind d t x) ≤ 14
  convert_room Unsigned8 d t x = omega arith
  convert_room Signed8 d t x = omega arith
  convert_room Unsigned16 d t x = omega arith
  convert_room Signed16 d t x = omega arith
  convert_room Word d t x = omega arith

  pub unary_room : (operator : UnaryOperator) (d t : ℕ) (x : Operand ℕ) → code_worth worth (unary_code operator d t x) ≤ 14
  unary_room Negate d t x = omega arith
  unary_room Complement d t x = omega arith
  unary_room IsZero d t x = omega arith
  unary_room (Convert kind) d t x = convert_room kind d t x

pub binary_few : (operator : BinaryOperator) → binary_needs operator ≤ 1
binary_few Add = omega arith
binary_few Subtract = omega arith
binary_few Multiply = omega arith
binary_few Divide = omega arith
binary_few DivideUnsigned = omega arith
binary_few Remainder = omega arith
binary_few RemainderUnsigned = omega arith
binary_few And = omega arith
binary_few Or = omega arith
binary_few Xor = omega arith
binary_few ShiftLeft = omega arith
binary_few ShiftRight = omega arith
binary_few ShiftRightUnsigned = omega arith
binary_few Equal = omega arith
binary_few NotEqual = omega arith
binary_few Less = omega arith
binary_few LessUnsigned = omega arith
binary_few AtLeast = omega arith
binary_few AtLeastUnsigned = omega arith

convert_few : (kind : Kind) → convert_needs kind ≤ 1
convert_few Unsigned8 = omega arith
convert_few Signed8 = omega arith
convert_few Unsigned16 = omega arith
convert_few Signed16 = omega arith
convert_few Word = omega arith

pub unary_few : (operator : UnaryOperator) → unary_needs operator ≤ 1
unary_few Negate = omega arith
unary_few Complement = omega arith
unary_few IsZero = omega arith
unary_few (Convert kind) = convert_few kind
