-- An assignment for the tests: the first registers of a function in machine registers, all of which each call keeps, and the others
-- in slots.
use Rattle.std.specs.Prelude.{ℕ, nat_lt, if◌then◌else◌, map, replicate}
use Rattle.std.specs.List.{range_with_len}
use Rattle.low_ir.specs.declared.places.Place.{Place}
use Rattle.low_ir.specs.declared.places.Place.TheVariants.{Register as InRegister, Slot}
use Rattle.low_ir.specs.Code.{Function, Note}
use Rattle.low_ir.specs.Places.{Placing, machine_registers}
use Rattle.image_saving.specs.Walks.{spots_in}

abbrev pub place_at : ℕ → Place
place_at v = if nat_lt v machine_registers then InRegister v else Slot v

-- the mask of all machine registers
abbrev pub all_kept : ℕ
all_kept = 0xFF_FFFF

abbrev pub in_registers : Function ℕ Note → Placing
in_registers fn = record { places = map place_at (range_with_len 0 fn.size); kept = replicate (spots_in fn.blocks) all_kept; slots = fn.size }
