-- The registers that function f saves, and those that have words in its frame, by the outlines of all functions.
use Rattle.std.specs.Prelude.{ℕ, ◌&&◌, Bool, false, List, map, slice_index_or}
use Rattle.std.specs.List.{range_with_len}
use Rattle.low_ir.specs.Places.{machine_registers}
use Rattle.image_frames.specs.Registers.{holds, chosen}
use Rattle.image_frames.specs.Needs.{Outline, outline_at, needing}

abbrev pub is_saved : List Outline → ℕ → ℕ → Bool
is_saved os f q = holds (outline_at os f).written q && slice_index_or (needing os q) f false

abbrev pub saved_by : List Outline → ℕ → List ℕ
saved_by os f = chosen (is_saved os f) machine_registers

abbrev pub homes_by : List Outline → ℕ → List ℕ
homes_by os f = chosen (holds (outline_at os f).housed) machine_registers

-- by register, and by function, whether it is needed
abbrev pub columns_of : List Outline → List (List Bool)
columns_of os = map (needing os) (range_with_len 0 machine_registers)
