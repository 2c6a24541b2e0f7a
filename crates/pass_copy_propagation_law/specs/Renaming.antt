-- Instructions that read and write other registers.
use Rattle.std.specs.Prelude.{ℕ, map, Option, Some, None, option_map}
use Rattle.low_ir.specs.Code.{Operand, Register, Constant, Base, Fixed, Through, Address, Plain, Set, Operate, Point, Load, Store, Put, Get, Instr, Do, Call, End, Jump, Branch, Return, Note}

-- a value that goes to a register goes to another one
abbrev pub renamed_into : ℕ → Option ℕ → Option ℕ
renamed_into into None = None
renamed_into into (Some d) = Some into

-- each register that is read has another name
module _ (name : ℕ → ℕ) where
  abbrev pub renamed_operand : Operand ℕ → Operand ℕ
  renamed_operand (Register r) = Register (name r)
  renamed_operand (Constant w) = Constant w

  abbrev pub renamed_base : Base ℕ → Base ℕ
  renamed_base (Fixed o) = Fixed o
  renamed_base (Through r claim) = Through (name r) claim

  abbrev pub renamed_address : Address ℕ → Address ℕ
  renamed_address a = record { base = renamed_base a.base; offset = option_map name a.offset; displacement = a.displacement }

  abbrev pub renamed_end : End ℕ → End ℕ
  renamed_end (Jump b) = Jump b
  renamed_end (Branch c x y taken other) = Branch c (renamed_operand x) (renamed_operand y) taken other
  renamed_end (Return x) = Return (renamed_operand x)

  -- and the value goes to another register
  module _ (into : ℕ) where
    abbrev pub renamed_plain : Plain ℕ → Plain ℕ
    renamed_plain (Set d x) = Set into (renamed_operand x)
    renamed_plain (Operate operator d x y) = Operate operator into (renamed_operand x) (renamed_operand y)
    renamed_plain (Point d a) = Point into (renamed_address a)
    renamed_plain (Load kind d a) = Load kind into (renamed_address a)
    renamed_plain (Store kind a x) = Store kind (renamed_address a) (renamed_operand x)
    renamed_plain (Put x) = Put (renamed_operand x)
    renamed_plain (Get d) = Get into

    abbrev pub renamed_instr : Instr ℕ Note → Instr ℕ Note
    renamed_instr (Do i) = Do (renamed_plain i)
    renamed_instr (Call d f args note) = Call (renamed_into into d) f (map renamed_operand args) note
