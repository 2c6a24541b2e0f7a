-- How many blocks of a program over places have a mark.
use Rattle.std.specs.Prelude.{ℕ, ◌+◌, List, [], ◌∷◌}
use Rattle.low_ir.specs.Room.{marks_once}
use Rattle.asm_program.specs.Functions.{PlacedBlock, PlacedFunction}

abbrev pub blocks_marked : ℕ → List PlacedBlock → ℕ
blocks_marked mark [] = 0
blocks_marked mark (b ∷ bs) = marks_once b.mark mark + blocks_marked mark bs

abbrev pub functions_marked : ℕ → List PlacedFunction → ℕ
functions_marked mark [] = 0
functions_marked mark (fn ∷ fns) = blocks_marked mark fn.blocks + functions_marked mark fns
