-- What the instructions of operators name.
use Rattle.std.proofs.Common.{ℕ, ◌+◌, ◌<◌, ◌≤◌, Bool, true, false, [], ◌∷◌, ◌++◌, Option, Some, None, arith}
use Rattle.rv_core.specs.declared.row.Alu.{Alu}
use Rattle.rv_core.specs.declared.row.Alu.TheVariants as alu
use Rattle.high_ir.specs.declared.object.Kind.{Kind}
use Rattle.high_ir.specs.declared.object.Kind.TheVariants.{Unsigned8, Signed8, Unsigned16, Signed16, Word}
use Rattle.high_ir.specs.declared.expression.UnaryOperator.{UnaryOperator}
use Rattle.high_ir.specs.declared.expression.UnaryOperator.TheVariants.{Negate, Complement, IsZero, Convert}
use Rattle.high_ir.specs.declared.expression.BinaryOperator.{BinaryOperator}
use Rattle.high_ir.specs.declared.expression.BinaryOperator.TheVariants.{Add, Subtract, Multiply, Divide, DivideUnsigned, Remainder, RemainderUnsigned, And, Or, Xor, ShiftLeft, ShiftRight, ShiftRightUnsigned, Equal, NotEqual, Less, LessUnsigned, AtLeast, AtLeastUnsigned}
use Rattle.low_ir.specs.Code.{Operand, Register, Constant, Instr, Note}
use Rattle.lower_definition.specs.Operators.{Code, binary_code, binary_needs, convert_code, convert_needs, difference, divided, divisor_exponent, exponent_of, in_order, masked, product, quotient, quotient_unsigned, remainder_unsigned, shifted, times, unary_code, unary_needs}
use Rattle.lower_budget.specs.Names.{CodeOk, InstrOk, OperandOk}

module _ (size objects claims f : ℕ) where
  abbrev In : Operand ℕ → Type 0
  In x = OperandOk size objects claims f x

  abbrev One : Instr ℕ Note → Type 0
  One i = InstrOk size objects claims f i

  abbrev pub Codes : Code → Type 0
  Codes c = CodeOk size objects claims f c

  pub code_append : (xs ys : Code) → Codes xs → Codes ys → Codes (xs ++ ys)
  code_append [] ys h k = k
  code_append (x ∷ xs) ys h k = (h.0, code_append xs ys h.1 k)

  in_order_ok : (operator : Alu) (d : ℕ) (x y : Operand ℕ) → d < size → In x → In y → One (in_order operator d x y)
  in_order_ok operator d (Register r) y h a b = (h, (a, b))
  in_order_ok operator d (Constant w) y h a b = (h, (b, tt))

  difference_ok : (d : ℕ) (x y : Operand ℕ) → d < size → In x → In y → One (difference d x y)
  difference_ok d x (Register r) h a b = (h, (a, b))
  difference_ok d x (Constant w) h a b = (h, (a, tt))

  shifted_ok : (operator shift : Alu) (d : ℕ) (x : Operand ℕ) (w : ℕ) (o : Option ℕ) → d < size → In x → One (shifted operator shift d x w o)
  shifted_ok operator shift d x w None h a = (h, (a, tt))
  shifted_ok operator shift d x w (Some k) h a = (h, (a, tt))

  masked_ok : (d : ℕ) (x : Operand ℕ) (w : ℕ) (o : Option ℕ) → d < size → In x → One (masked d x w o)
  masked_ok d x w None h a = (h, (a, tt))
  masked_ok d x w (Some k) h a = (h, (a, tt))

  times_ok : (d : ℕ) (x : Operand ℕ) (w : ℕ) → d < size → In x → One (times d x w)
  times_ok d x w h a = shifted_ok alu.Product alu.ShiftLeft d x w (exponent_of w) h a

  product_ok : (d : ℕ) (x y : Operand ℕ) → d < size → In x → In y → One (product d x y)
  product_ok d (Register r) (Register s) h a b = (h, (a, b))
  product_ok d (Register r) (Constant w) h a b = times_ok d (Register r) w h a
  product_ok d (Constant w) y h a b = times_ok d y w h b

  quotient_ok : (d : ℕ) (x y : Operand ℕ) → d < size → In x → In y → One (quotient_unsigned d x y)
  quotient_ok d x (Register r) h a b = (h, (a, b))
  quotient_ok d x (Constant w) h a b = shifted_ok alu.QuotientUnsigned alu.ShiftRight d x w (exponent_of w) h a

  remainder_ok : (d : ℕ) (x y : Operand ℕ) → d < size → In x → In y → One (remainder_unsigned d x y)
  remainder_ok d x (Register r) h a b = (h, (a, b))
  remainder_ok d x (Constant w) h a b = masked_ok d x w (exponent_of w) h a

  -- a comparison by way of the register t
  by_way : (t n : ℕ) → t + n ≤ size → 0 < n → t < size
  by_way t n room some = omega (arith, room, some)

  divided_ok : (d t : ℕ) (x : Operand ℕ) (w : ℕ) (o : Option ℕ) → d < size → In x → t < size → Codes (divided d t x w o)
  divided_ok d t x w None h a u = ((h, (a, tt)), tt)
  divided_ok d t x w (Some k) h a u = ((u, (a, tt)), ((u, (u, tt)), ((u, (a, u)), ((h, (u, tt)), tt))))

  signed_ok : (shifts : Bool) (d t : ℕ) (x y : Operand ℕ) → d < size → In x → In y → t < size → Codes (quotient shifts d t x y)
  signed_ok false d t x y h a b u = ((h, (a, b)), tt)
  signed_ok true d t x (Register r) h a b u = ((h, (a, b)), tt)
  signed_ok true d t x (Constant w) h a b u = divided_ok d t x w (divisor_exponent w) h a u

  pub binary_ok : (shifts : Bool) (operator : BinaryOperator) (d t : ℕ) (x y : Operand ℕ) → d < size → In x → In y → t + binary_needs operator ≤ size → Codes (binary_code shifts operator d t x y)
  binary_ok shifts Add d t x y h a b room = (in_order_ok alu.Sum d x y h a b, tt)
  binary_ok shifts Subtract d t x y h a b room = (difference_ok d x y h a b, tt)
  binary_ok shifts Multiply d t x y h a b room = (product_ok d x y h a b, tt)
  binary_ok shifts Divide d t x y h a b room = signed_ok shifts d t x y h a b (by_way t 1 room (omega arith))
  binary_ok shifts DivideUnsigned d t x y h a b room = (quotient_ok d x y h a b, tt)
  binary_ok shifts Remainder d t x y h a b room = ((h, (a, b)), tt)
  binary_ok shifts RemainderUnsigned d t x y h a b room = (remainder_ok d x y h a b, tt)
  binary_ok shifts And d t x y h a b room = (in_order_ok alu.BitAnd d x y h a b, tt)
  binary_ok shifts Or d t x y h a b room = (in_order_ok alu.BitOr d x y h a b, tt)
  binary_ok shifts Xor d t x y h a b room = (in_order_ok alu.BitXor d x y h a b, tt)
  binary_ok shifts ShiftLeft d t x y h a b room = ((h, (a, b)), tt)
  binary_ok shifts ShiftRight d t x y h a b room = ((h, (a, b)), tt)
  binary_ok shifts ShiftRightUnsigned d t x y h a b room = ((h, (a, b)), tt)
  binary_ok shifts Equal d t x y h a b room = let u = by_way t 1 room (omega arith) in (in_order_ok alu.BitXor t x y u a b, ((h, (u, tt)), tt))
  binary_ok shifts NotEqual d t x y h a b room = let u = by_way t 1 room (omega arith) in (in_order_ok alu.BitXor t x y u a b, ((h, (tt, u)), tt))
  binary_ok shifts Less d t x y h a b room = ((h, (a, b)), tt)
  binary_ok shifts LessUnsigned d t x y h a b room = ((h, (a, b)), tt)
  binary_ok shifts AtLeast d t x y h a b room = let u = by_way t 1 room (omega arith) in ((u, (a, b)), ((h, (u, tt)), tt))
  binary_ok shifts AtLeastUnsigned d t x y h a b room = let u = by_way t 1 room (omega arith) in ((u, (a, b)), ((h, (u, tt)), tt))

  convert_ok : (kind : Kind) (d t : ℕ) (x : Operand ℕ) → d < size → In x → t + convert_needs kind ≤ size → Codes (convert_code kind d t x)
  convert_ok Unsigned8 d t x h a room = ((h, (a, tt)), tt)
  convert_ok Signed8 d t x h a room = let u = by_way t 1 room (omega arith) in ((u, (a, tt)), ((h, (u, tt)), tt))
  convert_ok Unsigned16 d t x h a room = let u = by_way t 1 room (omega arith) in ((u, (a, tt)), ((h, (u, tt)), tt))
  convert_ok Signed16 d t x h a room = let u = by_way t 1 room (omega arith) in ((u, (a, tt)), ((h, (u, tt)), tt))
  convert_ok Word d t x h a room = ((h, a), tt)

  pub unary_ok : (operator : UnaryOperator) (d t : ℕ) (x : Operand ℕ) → d < size → In x → t + unary_needs operator ≤ size → Codes (unary_code operator d t x)
  unary_ok Negate d t x h a room = ((h, (tt, a)), tt)
  unary_ok Complement d t x h a room = ((h, (a, tt)), tt)
  unary_ok IsZero d t x h a room = ((h, (a, tt)), tt)
  unary_ok (Convert kind) d t x h a room = convert_ok kind d t x h a room
