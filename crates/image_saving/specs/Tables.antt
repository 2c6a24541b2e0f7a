-- Tables of registers, changed step by step.
use Rattle.std.specs.Prelude.{ℕ, Bool, true, if◌then◌else◌, List, [], ◌∷◌, slice_set}
use Rattle.low_ir.specs.declared.places.Place.{Place}
use Rattle.low_ir.specs.declared.places.Place.TheVariants.{Register as InRegister, Slot}
use Rattle.low_ir.specs.Effects.{is_member}
use Rattle.low_ir.specs.Places.{machine_registers, registers_of}
use Rattle.image_frames.specs.Registers.{Table}

-- the registers in a mask
unfoldable pub kept_list : ℕ → List ℕ
kept_list mask = registers_of machine_registers mask

-- with the register of a place, and with those of places
abbrev pub place_marked : Table → Place → Table
place_marked t (InRegister q) = slice_set t q true
place_marked t (Slot k) = t

abbrev pub places_marked : Table → List Place → Table
places_marked t [] = t
places_marked t (p ∷ ps) = places_marked (place_marked t p) ps

-- the same of those that are kept
abbrev pub keeps_place : List ℕ → Place → Bool
keeps_place kept (InRegister q) = is_member kept q
keeps_place kept (Slot k) = true

abbrev pub kept_marked : Table → List ℕ → List Place → Table
kept_marked t kept [] = t
kept_marked t kept (p ∷ ps) = kept_marked (if keeps_place kept p then place_marked t p else t) kept ps
