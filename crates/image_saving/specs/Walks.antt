-- The code of a function, walked over by the places of its registers and of all parameters.
use Rattle.std.specs.Prelude.{ℕ, suc, ◌+◌, ◌^◌, ◌<◌, Option, Some, None, List, [], ◌∷◌, ◌++◌, map, length, slice_index_or}
use Rattle.low_ir.specs.declared.places.Place.{Place}
use Rattle.low_ir.specs.Code.{Instr, Block, Function, Note}
use Rattle.low_ir.specs.Formed.{written_by, callee}
use Rattle.low_ir.specs.Places.{Assignment, Placing, assignment, no_placing}
use Rattle.image_frames.specs.Registers.{Table, no_registers}
use Rattle.image_frames.specs.Needs.{Site, Outline}
use Rattle.image_saving.specs.Tables.{kept_list, place_marked, places_marked, kept_marked}

-- the places of the parameters of each function from number f on
abbrev pub parameters_from : Assignment → ℕ → List (Function ℕ Note) → List (List Place)
parameters_from a f [] = []
parameters_from a f (fn ∷ fns) = map (a.place f) fn.parameters ∷ parameters_from a (suc f) fns

-- with the registers in which a function is passed arguments
abbrev pub passed_marked : List (List Place) → Table → Option ℕ → Table
passed_marked ps t None = t
passed_marked ps t (Some g) = places_marked t (slice_index_or ps g [])

-- with those in which calls pass arguments, and that they keep
abbrev pub homes_marked : List (List Place) → Table → List Site → Table
homes_marked ps t [] = t
homes_marked ps t (s ∷ ss) = homes_marked ps (kept_marked t s.kept (slice_index_or ps s.callee [])) ss

-- the registers that the call at a place of function f keeps, as bits
abbrev pub mask_at : List Placing → ℕ → ℕ → ℕ
mask_at ps f at = slice_index_or (slice_index_or ps f no_placing).kept at 0

-- function f
module _ (pls : List Placing) (f : ℕ) where
  abbrev pub result_marked : Table → Option ℕ → Table
  result_marked t None = t
  result_marked t (Some r) = place_marked t ((assignment pls).place f r)

  -- with the registers that instructions write
  abbrev pub code_marked : List (List Place) → Table → List (Instr ℕ Note) → Table
  code_marked ps t [] = t
  code_marked ps t (i ∷ is) = code_marked ps (passed_marked ps (result_marked t (written_by i)) (callee i)) is

  abbrev pub blocks_marked : List (List Place) → Table → List (Block ℕ Note) → Table
  blocks_marked ps t [] = t
  blocks_marked ps t (b ∷ bs) = blocks_marked ps (code_marked ps t b.code) bs

  -- the calls among the instructions from the place `at` on
  abbrev pub site_at : ℕ → Option ℕ → List Site
  site_at at None = []
  site_at at (Some g) = record { callee = g; kept = kept_list (mask_at pls f at) } ∷ []

  abbrev pub code_calls : ℕ → List (Instr ℕ Note) → List Site
  code_calls at [] = []
  code_calls at (i ∷ is) = site_at at (callee i) ++ code_calls (suc at) is

  abbrev pub blocks_call : ℕ → List (Block ℕ Note) → List Site
  blocks_call at [] = []
  blocks_call at (b ∷ bs) = code_calls at b.code ++ blocks_call (at + suc (length b.code)) bs

  abbrev pub written_in : List (List Place) → Function ℕ Note → Table
  written_in ps fn = blocks_marked ps no_registers fn.blocks

  abbrev pub calls_in : Function ℕ Note → List Site
  calls_in fn = blocks_call 0 fn.blocks

  -- what it does with registers
  abbrev pub outline_in : List (List Place) → Function ℕ Note → Outline
  outline_in ps fn =
      record {
        written = written_in ps fn;
        passed = places_marked no_registers (map ((assignment pls).place f) fn.parameters);
        housed = homes_marked ps (places_marked no_registers (map ((assignment pls).place f) fn.parameters)) (calls_in fn);
        sites = calls_in fn;
      }

-- and the functions from number f on
abbrev pub outlines_from : List Placing → List (List Place) → ℕ → List (Function ℕ Note) → List Outline
outlines_from pls ps f [] = []
outlines_from pls ps f (fn ∷ fns) = outline_in pls f ps fn ∷ outlines_from pls ps (suc f) fns

-- how many places code has
abbrev pub spots_in : List (Block ℕ Note) → ℕ
spots_in [] = 0
spots_in (b ∷ bs) = suc (length b.code) + spots_in bs

abbrev pub HaveSpots : List (Function ℕ Note) → Type 0
HaveSpots [] = Unit {0}
HaveSpots (fn ∷ fns) = (spots_in fn.blocks < 2 ^ 64) × HaveSpots fns
