-- Code whose displacements are words.
use Rattle.std.specs.Prelude.{◌^◌, ◌<◌, All}
use Rattle.low_ir.specs.declared.instruction.Instr.{Instr}
use Rattle.low_ir.specs.declared.instruction.Instr.TheVariants.{Set, Operate, Point, Load, Store, Put, Get, Call}
use Rattle.low_ir.specs.declared.low.Block.{Block}
use Rattle.low_ir.specs.declared.low.Function.{Function}

abbrev pub InstrHasWords : Instr → Type 0
InstrHasWords (Set d x) = Unit {0}
InstrHasWords (Operate operator d x y) = Unit {0}
InstrHasWords (Point d a) = a.displacement < 2 ^ 32
InstrHasWords (Load kind d a) = a.displacement < 2 ^ 32
InstrHasWords (Store kind a x) = a.displacement < 2 ^ 32
InstrHasWords (Put x) = Unit {0}
InstrHasWords (Get d) = Unit {0}
InstrHasWords (Call f args d) = Unit {0}

abbrev pub BlockHasWords : Block → Type 0
BlockHasWords b = All InstrHasWords b.code.items

abbrev pub FunctionHasWords : Function → Type 0
FunctionHasWords fn = All BlockHasWords fn.blocks.items
