-- The budgets of a program on its way: what passes may make of it, and what its code may take.
use Rattle.std.specs.Prelude.{ℕ, ◌+◌, ◌*◌}

-- operations in the high form: six for each node of the largest source
abbrev pub most_operations : ℕ
most_operations = 98_304

-- how deep the body of a function is in the high form
abbrev pub most_depth : ℕ
most_depth = 1_024

-- bytes that the local variables and arrays of all functions take in the high form
abbrev pub most_locals : ℕ
most_locals = 524_288

-- machine instructions that passes over the low form may make: sixteen for each operation
abbrev pub spare_room : ℕ
spare_room = 16 * most_operations

-- machine instructions in all: sixty-four more for each of the functions that a source may have
abbrev pub most_instructions : ℕ
most_instructions = spare_room + 64 * 256
