-- A low program in the forms that are chosen for its items has its code.
use Rattle.std.specs.Prelude.{ℕ, ◌≤◌, length, All}
use Rattle.asm_forms.specs.Regions.{Rows}
use Rattle.asm_forms.specs.Layouts.{formed}
use Rattle.asm_placed.specs.Written.{placing_of}
use Rattle.low_ir.specs.Places.{Placed}
use Rattle.asm_program.specs.Frames.{Memory, frame_of}
use Rattle.asm_program.specs.Functions.{PlacedBlock, PlacedFunction, program_items}
use Rattle.asm_program.specs.Formed.{IsProgram}
use Rattle.asm_program.specs.Laws.{AreWords}
use Rattle.asm_prices.specs.Bounds.{HasCode}

-- wherever its two rows lie
abbrev pub ChosenHasCode : Type 0
ChosenHasCode =
    (m : Memory) (p : Placed) (r : Rows) → IsProgram p → All (λ (fn : PlacedFunction). All (λ (b : PlacedBlock). All AreWords b.code) fn.blocks) p.functions → ((f : ℕ) → length (frame_of m f).saved ≤ 24)
    → HasCode m p (placing_of r (formed r (program_items m p)))
