-- What the items of a program over places keep.
use Rattle.asm_forms.specs.Sound.{FunctionsSound}
use Rattle.low_ir.specs.Places.{Placed}
use Rattle.asm_program.specs.Frames.{Memory}
use Rattle.asm_program.specs.Functions.{program_items}
use Rattle.asm_program.specs.Ranges.{InProgram, AreSaving}

-- the ranges of their instructions
abbrev pub ItemsAreSound : Type 0
ItemsAreSound = (m : Memory) (p : Placed) → InProgram p → AreSaving m → FunctionsSound (program_items m p)
