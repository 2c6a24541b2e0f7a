-- What instructions name.
use Rattle.std.specs.Prelude.{ℕ, ◌<◌, List, [], ◌∷◌, Option, Some, None}
use Rattle.high_ir.specs.Formed.{IsHigh}
use Rattle.high_ir.specs.Tree as high
use Rattle.low_ir.specs.Code.{Operand, Register, Constant, Base, Fixed, Through, Address, Set, Operate, Point, Load, Store, Put, Get, Instr, Do, Call, End, Jump, Branch, Return, Block, Note}
use Rattle.low_ir.specs.Formed.{IsLow}
use Rattle.lower_definition.specs.Operators.{Code}
use Rattle.lower_definition.specs.Programs.{lowered}

-- in function f, where there are so many registers, arrays and claims
module _ (size objects claims f : ℕ) where
  abbrev pub OperandOk : Operand ℕ → Type 0
  OperandOk (Register r) = r < size
  OperandOk (Constant w) = Unit {0}

  abbrev pub OperandsOk : List (Operand ℕ) → Type 0
  OperandsOk [] = Unit {0}
  OperandsOk (x ∷ xs) = OperandOk x × OperandsOk xs

  abbrev pub RegisterOk : Option ℕ → Type 0
  RegisterOk None = Unit {0}
  RegisterOk (Some r) = r < size

  abbrev pub BaseOk : Base ℕ → Type 0
  BaseOk (Fixed o) = o < objects
  BaseOk (Through r claim) = (r < size) × (claim < claims)

  abbrev pub AddressOk : Address ℕ → Type 0
  AddressOk a = BaseOk a.base × RegisterOk a.offset

  abbrev pub InstrOk : Instr ℕ Note → Type 0
  InstrOk (Do (Set d x)) = (d < size) × OperandOk x
  InstrOk (Do (Operate operator d x y)) = (d < size) × (OperandOk x × OperandOk y)
  InstrOk (Do (Point d a)) = (d < size) × AddressOk a
  InstrOk (Do (Load kind d a)) = (d < size) × AddressOk a
  InstrOk (Do (Store kind a x)) = AddressOk a × OperandOk x
  InstrOk (Do (Put x)) = OperandOk x
  InstrOk (Do (Get d)) = d < size
  InstrOk (Call into g args note) = RegisterOk into × (OperandsOk args × (g < f))

  abbrev pub CodeOk : Code → Type 0
  CodeOk [] = Unit {0}
  CodeOk (i ∷ is) = InstrOk i × CodeOk is

  abbrev pub EndOk : End ℕ → Type 0
  EndOk (Jump b) = Unit {0}
  EndOk (Branch condition x y taken other) = OperandOk x × OperandOk y
  EndOk (Return x) = OperandOk x

  abbrev pub BlockOk : Block ℕ Note → Type 0
  BlockOk b = CodeOk b.code × EndOk b.end

  abbrev pub BlocksOk : List (Block ℕ Note) → Type 0
  BlocksOk [] = Unit {0}
  BlocksOk (b ∷ bs) = BlockOk b × BlocksOk bs

abbrev pub LoweredIsLow : Type 0
LoweredIsLow = (p : high.Program) → IsHigh p → IsLow (lowered p)
