-- The programs of the code, without where they lie in memory.
use Rattle.std.specs.Prelude.{ℕ, List, map, Vec}
use Rattle.std.specs.Global.{Global}
use Rattle.low_ir.specs.declared.object.Object as objects
use Rattle.low_ir.specs.declared.instruction.Operand.{Operand as Operand'}
use Rattle.low_ir.specs.declared.instruction.Operand.TheVariants as operands
use Rattle.low_ir.specs.declared.instruction.Base.{Base as Base'}
use Rattle.low_ir.specs.declared.instruction.Base.TheVariants as bases
use Rattle.low_ir.specs.declared.instruction.Address as addresses
use Rattle.low_ir.specs.declared.instruction.Instr.{Instr as Instr'}
use Rattle.low_ir.specs.declared.instruction.Instr.TheVariants as instrs
use Rattle.low_ir.specs.declared.instruction.End.{End as End'}
use Rattle.low_ir.specs.declared.instruction.End.TheVariants as ends
use Rattle.low_ir.specs.declared.low.Block as blocks
use Rattle.low_ir.specs.declared.low.Loop as loops
use Rattle.low_ir.specs.declared.low.Function as functions
use Rattle.low_ir.specs.Code.{Operand, Register, Constant, Base, Fixed, Through, Address, Set, Operate, Point, Load, Store, Put, Get, Instr, Do, Call, End, Jump, Branch, Return, Block, Loop, Function, Object, Note, Low}

abbrev pub operand_of : Operand' → Operand ℕ
operand_of (operands.Register r) = Register r
operand_of (operands.Constant word) = Constant word

abbrev pub base_of : Base' → Base ℕ
base_of (bases.Object object) = Fixed object
base_of (bases.Pointer r claim) = Through r claim

abbrev pub address_of : addresses.Address → Address ℕ
address_of a = record { base = base_of a.base; offset = a.offset; displacement = a.displacement }

abbrev pub instr_of : Instr' → Instr ℕ Note
instr_of (instrs.Set d x) = Do (Set d (operand_of x))
instr_of (instrs.Operate operator d x y) = Do (Operate operator d (operand_of x) (operand_of y))
instr_of (instrs.Point d a) = Do (Point d (address_of a))
instr_of (instrs.Load kind d a) = Do (Load kind d (address_of a))
instr_of (instrs.Store kind a x) = Do (Store kind (address_of a) (operand_of x))
instr_of (instrs.Put x) = Do (Put (operand_of x))
instr_of (instrs.Get d) = Do (Get d)
instr_of (instrs.Call f args into) = Call into f (map operand_of args.items) tt

abbrev pub end_of : End' → End ℕ
end_of (ends.Jump b) = Jump b
end_of (ends.Branch condition x y taken other) = Branch condition (operand_of x) (operand_of y) taken other
end_of (ends.Return x) = Return (operand_of x)

abbrev pub block_of : blocks.Block → Block ℕ Note
block_of b = record { mark = b.mark; code = map instr_of b.code.items; end = end_of b.end }

abbrev pub loop_of : loops.Loop → Loop
loop_of l = record { id = l.id; least = l.min; most = l.max; header = l.header; latch = l.latch }

abbrev pub function_of : functions.Function → Function ℕ Note
function_of f = record { parameters = f.parameters.items; size = f.registers; loops = map loop_of f.loops.items; blocks = map block_of f.blocks.items }

abbrev pub object_of : objects.Object → Object
object_of o = record { kind = o.kind; storage = o.storage; size = o.length; values = o.values.items }

abbrev pub claim_of : Vec ℕ Global → List ℕ
claim_of c = c.items

-- a program of these parts
abbrev pub program : List functions.Function → List (Vec ℕ Global) → List objects.Object → ℕ → ℕ → Low
program functions claims objects main marks =
    record { functions = map function_of functions; claims = map claim_of claims; objects = map object_of objects; main = main; marks = marks }
