-- What the places of frames and arrays keep.
use Rattle.std.specs.Prelude.{◌≡◌, ℕ, ◌<◌, true, Option, Contains, length, List}
use Rattle.low_ir.specs.declared.places.Place.{Place}
use Rattle.low_ir.specs.Code.{Operand, Call, Low}
use Rattle.low_ir.specs.Effects.{is_member}
use Rattle.low_ir.specs.Places.{Placing, assignment, placed, Placed, machine_registers}
use Rattle.asm_program.specs.Functions.{PlacedBlock, function_in}
use Rattle.asm_program.specs.Formed.{IsProgram}
use Rattle.asm_program.specs.Ranges.{InProgram}
use Rattle.simulation_relation.specs.Plans.{IsPlan}
use Rattle.image_frames.specs.Needs.{needed_of}
use Rattle.image_frames.specs.Memories.{Placement, memory_of, regions_of, FitsMemory}

-- calls keep registers that hold values
abbrev pub KeepsRegisters : Placed → Type 0
KeepsRegisters p = (f g : ℕ) (b : PlacedBlock) (d : Option Place) (args : List (Operand Place)) (note : List ℕ) → f < length p.functions → Contains (function_in p f).blocks b → Contains b.code (Call d g args note)
    → (q : ℕ) → is_member note q ≡ true → q < machine_registers

-- a program's frames and arrays lie as a plan wants it
abbrev pub MemoryIsPlanned : Type 0
MemoryIsPlanned = (pl : Placement) (p : Placed) → IsProgram p → InProgram p → KeepsRegisters p → FitsMemory pl p → IsPlan p (memory_of pl p) (needed_of p) (regions_of pl p)

-- and calls of programs over the places of an assignment keep such registers
abbrev pub PlacedKeepRegisters : Type 0
PlacedKeepRegisters = (ps : List Placing) (low : Low) → KeepsRegisters (placed (assignment ps) low)
