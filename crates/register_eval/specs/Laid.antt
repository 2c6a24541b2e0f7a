-- A function over the places of its registers, from a placing of its own.
use Rattle.std.specs.Prelude.{ℕ, List, [], ◌∷◌, map, option_map}
use Rattle.low_ir.specs.declared.places.Place.{Place}
use Rattle.low_ir.specs.Code.{Instr, Do, Call, Function, Note}
use Rattle.low_ir.specs.Places.{Placing, machine_registers, place_blocks, place_in, place_operand, place_plain, kept_in, registers_of}

-- the mask of registers that the next instruction keeps, if it calls, and the masks of those behind it
abbrev pub first_mask : List ℕ → ℕ
first_mask [] = 0
first_mask (m ∷ ms) = m

abbrev pub masks_behind : List ℕ → List ℕ
masks_behind [] = []
masks_behind (m ∷ ms) = ms

abbrev pub laid_instr : (ℕ → Place) → ℕ → Instr ℕ Note → Instr Place (List ℕ)
laid_instr pl mask (Do i) = Do (place_plain pl i)
laid_instr pl mask (Call d f args note) = Call (option_map pl d) f (map (place_operand pl) args) (registers_of machine_registers mask)

-- code over places, with the masks from its first instruction on
abbrev pub laid_code : (ℕ → Place) → List ℕ → List (Instr ℕ Note) → List (Instr Place (List ℕ))
laid_code pl masks [] = []
laid_code pl masks (i ∷ is) = laid_instr pl (first_mask masks) i ∷ laid_code pl (masks_behind masks) is

abbrev pub laid_function : Placing → Function ℕ Note → Function Place (List ℕ)
laid_function p fn =
    record { parameters = map (place_in p) fn.parameters; size = p.slots; loops = fn.loops; blocks = place_blocks (place_in p) (kept_in p) 0 fn.blocks }
