-- How many bytes the code of a program over places takes.
use Rattle.std.specs.Prelude.{ℕ, ◌*◌, ◌≤◌, length, All}
use Rattle.asm_forms.specs.Regions.{Rows, functions_size}
use Rattle.asm_forms.specs.Shorter.{functions_longest}
use Rattle.asm_forms.specs.Layouts.{formed}
use Rattle.low_ir.specs.Places.{Placed}
use Rattle.low_ir.specs.Room.{room}
use Rattle.asm_program.specs.Frames.{Memory, frame_of}
use Rattle.asm_program.specs.Functions.{PlacedBlock, PlacedFunction, program_items}
use Rattle.asm_program.specs.Formed.{IsProgram}
use Rattle.asm_program.specs.Laws.{AreWords}

-- displacements are words, and no function saves more registers than hold values
pub record IsSmall (m : Memory) (p : Placed) : Type 0 where
  pub program : IsProgram p
  pub words : All (λ (fn : PlacedFunction). All (λ (b : PlacedBlock). All AreWords b.code) fn.blocks) p.functions
  pub saved : (f : ℕ) → length (frame_of m f).saved ≤ 24

-- all functions and the start code, in their longest forms
abbrev pub LongestHasRoom : Type 0
LongestHasRoom = (m : Memory) (p : Placed) → IsSmall m p → functions_size (functions_longest (program_items m p)) ≤ 4 * room p

-- in the forms that are chosen
abbrev pub ChosenHasRoom : Type 0
ChosenHasRoom = (m : Memory) (p : Placed) (r : Rows) → IsSmall m p → functions_size (formed r (program_items m p)) ≤ 4 * room p
