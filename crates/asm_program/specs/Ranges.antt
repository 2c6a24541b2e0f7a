-- Programs over places whose registers are among those of the machine, and frames that are reached from their beginning.
use Rattle.std.specs.Prelude.{ℕ, ◌<◌, ◌≤◌, List, length, All}
use Rattle.std.specs.Option.{option_to_list}
use Rattle.low_ir.specs.declared.places.Place.{Place}
use Rattle.low_ir.specs.declared.places.Place.TheVariants.{Register as InRegister, Slot}
use Rattle.low_ir.specs.Code.{Operand, Register, Constant, Base, Fixed, Through, Address, Plain, Set, Operate, Point, Load, Store, Put, Get, Instr, Do, Call, End, Jump, Branch, Return}
use Rattle.low_ir.specs.Places.{Placed, machine_registers, result_register}
use Rattle.asm_program.specs.Frames.{Frame, Memory}
use Rattle.asm_program.specs.Functions.{PlacedBlock, PlacedFunction}

-- a register that holds values, x10 among them
abbrev pub IsRegister : Place → Type 0
IsRegister (InRegister q) = q ≤ result_register
IsRegister (Slot k) = Unit {0}

-- one that can hold them over calls
abbrev pub IsLasting : Place → Type 0
IsLasting (InRegister q) = q < machine_registers
IsLasting (Slot k) = Unit {0}

abbrev pub InOperand : Operand Place → Type 0
InOperand (Register p) = IsRegister p
InOperand (Constant w) = Unit {0}

abbrev pub InBase : Base Place → Type 0
InBase (Fixed o) = Unit {0}
InBase (Through p claim) = IsRegister p

abbrev pub InAddress : Address Place → Type 0
InAddress a = InBase a.base × All IsRegister (option_to_list a.offset)

abbrev pub InPlain : Plain Place → Type 0
InPlain (Set d x) = IsRegister d × InOperand x
InPlain (Operate operator d x y) = IsRegister d × InOperand x × InOperand y
InPlain (Point d a) = IsRegister d × InAddress a
InPlain (Load kind d a) = IsRegister d × InAddress a
InPlain (Store kind a x) = InAddress a × InOperand x
InPlain (Put x) = InOperand x
InPlain (Get d) = IsRegister d

abbrev pub InInstr : Instr Place (List ℕ) → Type 0
InInstr (Do i) = InPlain i
InInstr (Call d callee args note) = All IsRegister (option_to_list d) × All InOperand args

abbrev pub InEnd : End Place → Type 0
InEnd (Jump b) = Unit {0}
InEnd (Branch condition x y taken other) = InOperand x × InOperand y
InEnd (Return x) = InOperand x

abbrev pub InBlock : PlacedBlock → Type 0
InBlock b = All InInstr b.code × InEnd b.end

abbrev pub InFunction : PlacedFunction → Type 0
InFunction fn = All IsLasting fn.parameters × All InBlock fn.blocks

abbrev pub InProgram : Placed → Type 0
InProgram p = All InFunction p.functions

-- a function saves machine registers, no more of them than there are
abbrev pub IsSaving : Frame → Type 0
IsSaving fr = All (λ q. q < 24) fr.saved × (length fr.saved ≤ 24)

abbrev pub AreSaving : Memory → Type 0
AreSaving m = All IsSaving m.frames
