-- The code of instructions over places.
use Rattle.std.specs.Prelude.{ℕ, ◌%◌, ◌^◌, ◌==◌, ◌&&◌, not, ℤ, pos, Bool, true, false, nat_lt, if◌then◌else◌, List, [], ◌∷◌, ◌++◌, Option, Some, None}
use Rattle.rv_core.specs.declared.op.Op.{Op}
use Rattle.rv_core.specs.declared.op.Op.TheVariants as ops
use Rattle.rv_core.specs.declared.row.Alu.{Alu}
use Rattle.rv_core.specs.declared.row.Alu.TheVariants.{Sum, Difference, ShiftLeft, IsLess, IsLessUnsigned, BitXor, ShiftRight, ShiftRightSigned, BitOr, BitAnd, Product, HighProduct, HighProductMixed, HighProductUnsigned, Quotient, QuotientUnsigned, Remainder, RemainderUnsigned}
use Rattle.rv_core.specs.Instructions.{Instruction, instruction, addi, ecall}
use Rattle.low_ir.specs.declared.object.Kind.{Kind}
use Rattle.low_ir.specs.declared.object.Kind.TheVariants.{Unsigned8, Signed8, Unsigned16, Signed16, Word}
use Rattle.low_ir.specs.declared.places.Place.{Place}
use Rattle.low_ir.specs.declared.places.Place.TheVariants.{Register as InRegister, Slot}
use Rattle.low_ir.specs.Code.{Operand, Register, Constant, Plain, Set, Operate, Point, Load, Store, Put, Get}
use Rattle.low_ir.specs.Effects.{is_member}
use Rattle.asm_program.specs.Numbers.{result, service, first_free, second_free, machine_register, is_short, lower_of}
use Rattle.asm_program.specs.Frames.{Frame, Memory, slot_at, home_at}
use Rattle.asm_program.specs.Operands.{load_code, store_code, place_register, operand_register, operand_code, into_code, result_code, put_code, address_code, address_register, address_offset}

abbrev pub register_op : Alu → Op
register_op Sum = ops.Add
register_op Difference = ops.Sub
register_op ShiftLeft = ops.Sll
register_op IsLess = ops.Slt
register_op IsLessUnsigned = ops.Sltu
register_op BitXor = ops.Xor
register_op ShiftRight = ops.Srl
register_op ShiftRightSigned = ops.Sra
register_op BitOr = ops.Or
register_op BitAnd = ops.And
register_op Product = ops.Mul
register_op HighProduct = ops.Mulh
register_op HighProductMixed = ops.Mulhsu
register_op HighProductUnsigned = ops.Mulhu
register_op Quotient = ops.Div
register_op QuotientUnsigned = ops.Divu
register_op Remainder = ops.Rem
register_op RemainderUnsigned = ops.Remu

abbrev pub load_op : Kind → Op
load_op Unsigned8 = ops.Lbu
load_op Signed8 = ops.Lb
load_op Unsigned16 = ops.Lhu
load_op Signed16 = ops.Lh
load_op Word = ops.Lw

abbrev pub store_op : Kind → Op
store_op Unsigned8 = ops.Sb
store_op Signed8 = ops.Sb
store_op Unsigned16 = ops.Sh
store_op Signed16 = ops.Sh
store_op Word = ops.Sw

-- what an operator makes of a constant that fits into its instruction
abbrev pub with_number : Op → ℕ → Option (Op × ℤ)
with_number op n = if is_short n then Some (op, lower_of n) else None

abbrev pub with_amount : Op → ℕ → Option (Op × ℤ)
with_amount op n = if nat_lt n 32 then Some (op, pos n) else None

abbrev pub immediate_form : Alu → ℕ → Option (Op × ℤ)
immediate_form Sum n = with_number ops.Addi n
immediate_form ShiftLeft n = with_amount ops.Slli n
immediate_form IsLess n = with_number ops.Slti n
immediate_form IsLessUnsigned n = with_number ops.Sltiu n
immediate_form BitXor n = with_number ops.Xori n
immediate_form ShiftRight n = with_amount ops.Srli n
immediate_form ShiftRightSigned n = with_amount ops.Srai n
immediate_form BitOr n = with_number ops.Ori n
immediate_form BitAnd n = with_number ops.Andi n
immediate_form operator n = None

abbrev pub immediate_of : Alu → Operand Place → Option (Op × ℤ)
immediate_of operator (Register p) = None
immediate_of operator (Constant w) = immediate_form operator (w % 2 ^ 32)

-- whether operands read a machine register
abbrev pub reads_register : ℕ → List (Operand Place) → Bool
reads_register q [] = false
reads_register q (Register (InRegister r) ∷ xs) = if q == r then true else reads_register q xs
reads_register q (Register (Slot k) ∷ xs) = reads_register q xs
reads_register q (Constant w ∷ xs) = reads_register q xs

-- the machine registers among places
abbrev pub registers_among : List Place → List ℕ
registers_among [] = []
registers_among (InRegister q ∷ ps) = q ∷ registers_among ps
registers_among (Slot k ∷ ps) = registers_among ps

-- the register is the place of one of them alone
abbrev pub is_once : ℕ → List ℕ → Bool
is_once q [] = false
is_once q (x ∷ xs) = if x == q then not (is_member xs q) else is_once q xs

-- an argument goes into its register at once where no later one reads it, and it is that of no other parameter
abbrev pub is_direct : List Place → ℕ → List (Operand Place) → Bool
is_direct all q later = not (reads_register q later) && is_once q (registers_among all)

-- the registers in which a call passes arguments, and that it keeps
abbrev pub kept_among : List Place → List ℕ → List ℕ
kept_among [] note = []
kept_among (InRegister q ∷ ps) note = if is_member note q then q ∷ kept_among ps note else kept_among ps note
kept_among (Slot k ∷ ps) note = kept_among ps note

module _ (fr : Frame) where
  abbrev pub set_code : Place → Operand Place → List Instruction
  set_code (InRegister q) x = into_code fr (machine_register q) x
  set_code (Slot k) x = operand_code fr first_free x ++ store_code second_free (operand_register fr first_free x) (slot_at fr k)

  abbrev pub operate_by : Option (Op × ℤ) → Alu → Place → Operand Place → Operand Place → List Instruction
  operate_by None operator d x y =
      operand_code fr first_free x
      ++ (operand_code fr second_free y
      ++ (instruction (register_op operator) (place_register fr first_free d) (operand_register fr first_free x) (operand_register fr second_free y) (pos 0)
      ∷ result_code fr first_free second_free d))
  operate_by (Some form) operator d x y =
      operand_code fr first_free x ++ (instruction form.0 (place_register fr first_free d) (operand_register fr first_free x) 0 form.1 ∷ result_code fr first_free second_free d)

  abbrev pub plain_code : Memory → Plain Place → List Instruction
  plain_code m (Set d x) = set_code d x
  plain_code m (Operate operator d x y) = operate_by (immediate_of operator y) operator d x y
  plain_code m (Point d a) = address_code fr m a ++ addi (place_register fr first_free d) (address_register fr m a) (address_offset fr m a) ∷ result_code fr first_free second_free d
  plain_code m (Load kind d a) = address_code fr m a ++ instruction (load_op kind) (place_register fr first_free d) (address_register fr m a) 0 (address_offset fr m a) ∷ result_code fr first_free second_free d
  plain_code m (Store kind a x) = address_code fr m a ++ (operand_code fr second_free x ++ (instruction (store_op kind) 0 (address_register fr m a) (operand_register fr second_free x) (address_offset fr m a) ∷ []))
  plain_code m (Put x) = into_code fr result x ++ addi service 0 (pos 2) ∷ ecall ∷ []
  plain_code m (Get d) = addi service 0 (pos 1) ∷ ecall ∷ put_code fr result d

  -- own registers go to their words in the frame, and come back
  abbrev pub home_code : List ℕ → List Instruction
  home_code [] = []
  home_code (q ∷ qs) = store_code first_free (machine_register q) (home_at fr q) ++ home_code qs

  abbrev pub return_code : List ℕ → List Instruction
  return_code [] = []
  return_code (q ∷ qs) = load_code (machine_register q) (home_at fr q) ++ return_code qs

  -- arguments go to the callee: into their registers at once, or to words of its frame, which rests
  module _ (callee : Frame) (all : List Place) where
    abbrev pub store_argument : Operand Place → ℕ → List Instruction
    store_argument x a = operand_code fr first_free x ++ store_code second_free (operand_register fr first_free x) a

    abbrev pub pass_code : List (Operand Place) → List Place → List Instruction
    pass_code [] ps = []
    pass_code (x ∷ xs) [] = []
    pass_code (x ∷ xs) (InRegister q ∷ ps) = (if is_direct all q xs then into_code fr (machine_register q) x else store_argument x (home_at callee q)) ++ pass_code xs ps
    pass_code (x ∷ xs) (Slot k ∷ ps) = store_argument x (slot_at callee k) ++ pass_code xs ps

    -- and from there into their registers
    abbrev pub late_code : List (Operand Place) → List Place → List Instruction
    late_code [] ps = []
    late_code (x ∷ xs) [] = []
    late_code (x ∷ xs) (InRegister q ∷ ps) = (if is_direct all q xs then [] else load_code (machine_register q) (home_at callee q)) ++ late_code xs ps
    late_code (x ∷ xs) (Slot k ∷ ps) = late_code xs ps

  abbrev pub value_code : Option Place → List Instruction
  value_code None = []
  value_code (Some d) = put_code fr result d

  -- before and behind the call itself
  abbrev pub before_call : Frame → List Place → List ℕ → List (Operand Place) → List Instruction
  before_call callee params note args = home_code (kept_among params note) ++ (pass_code callee params args params ++ late_code callee params args params)

  abbrev pub behind_call : Option Place → List Place → List ℕ → List Instruction
  behind_call d params note = return_code (kept_among params note) ++ value_code d
