-- Which registers a function saves for those that wait for it, and which have a word in its frame for the time of a call.
use Rattle.std.specs.Prelude.{ℕ, zero, suc, ◌&&◌, ◌||◌, not, Bool, true, false, if◌then◌else◌, List, [], ◌∷◌, ◌++◌, length, map, replicate, slice_index_or, slice_set}
use Rattle.std.specs.List.{flat_map}
use Rattle.std.specs.Option.{option_to_list}
use Rattle.low_ir.specs.declared.places.Place.{Place}
use Rattle.low_ir.specs.Code.{Instr, Do, Call}
use Rattle.low_ir.specs.Effects.{is_member}
use Rattle.low_ir.specs.Formed.{written_by}
use Rattle.low_ir.specs.Places.{Placed, machine_registers}
use Rattle.asm_program.specs.Emission.{registers_among, kept_among}
use Rattle.asm_program.specs.Functions.{PlacedBlock, PlacedFunction, function_in}
use Rattle.image_frames.specs.Registers.{Table, no_registers, holds, table_of, chosen}

abbrev pub parameters_of : Placed → ℕ → List Place
parameters_of p f = (function_in p f).parameters

-- the registers that an instruction writes, those in which it passes arguments among them
abbrev pub writes_of : Placed → Instr Place (List ℕ) → List ℕ
writes_of p (Do i) = registers_among (option_to_list (written_by {R = Place} {K = List ℕ} (Do i)))
writes_of p (Call d callee args note) = registers_among (option_to_list d ++ parameters_of p callee)

abbrev pub block_writes : Placed → List (Instr Place (List ℕ)) → List ℕ
block_writes p is = flat_map (writes_of p) is

abbrev pub function_writes : Placed → PlacedFunction → List ℕ
function_writes p fn = flat_map (λ (b : PlacedBlock). block_writes p b.code) fn.blocks

-- a call: who is called, and the registers that the call keeps
pub record Site : Type 0 where
  pub callee : ℕ
  pub kept : List ℕ

abbrev pub code_sites : List (Instr Place (List ℕ)) → List Site
code_sites [] = []
code_sites (Do i ∷ is) = code_sites is
code_sites (Call d callee args note ∷ is) = record { callee = callee; kept = note } ∷ code_sites is

abbrev pub blocks_sites : List PlacedBlock → List Site
blocks_sites [] = []
blocks_sites (b ∷ bs) = code_sites b.code ++ blocks_sites bs

-- of those that calls keep, the registers in which they pass arguments
abbrev pub sites_homes : Placed → List Site → List ℕ
sites_homes p [] = []
sites_homes p (s ∷ ss) = kept_among (parameters_of p s.callee) s.kept ++ sites_homes p ss

-- what a function does with registers: by register, whether it writes it, gets an argument in it, or has a word for it in its frame;
-- and its calls
pub record Outline : Type 0 where
  pub written : Table
  pub passed : Table
  pub housed : Table
  pub sites : List Site

abbrev pub outline_of : Placed → PlacedFunction → Outline
outline_of p fn =
    record {
      written = table_of (function_writes p fn);
      passed = table_of (registers_among fn.parameters);
      housed = table_of (registers_among fn.parameters ++ sites_homes p (blocks_sites fn.blocks));
      sites = blocks_sites fn.blocks;
    }

abbrev pub outlines_of : Placed → List Outline
outlines_of p = map (outline_of p) p.functions

abbrev pub no_outline : Outline
no_outline = record { written = no_registers; passed = no_registers; housed = no_registers; sites = [] }

abbrev pub outline_at : List Outline → ℕ → Outline
outline_at os f = slice_index_or os f no_outline

-- A register q, and by function whether those that wait for it need what q holds. They do where a call keeps q and passes nothing in
-- it, and where the caller doesn't save what those need that wait for it.
module _ (os : List Outline) (q : ℕ) where
  abbrev pub asks : Bool → Bool → Site → Bool
  asks needed saved s = (is_member s.kept q && not (holds (outline_at os s.callee).passed q)) || (needed && not saved)

  abbrev pub spread_sites : Bool → Bool → List Site → List Bool → List Bool
  spread_sites needed saved [] needs = needs
  spread_sites needed saved (s ∷ ss) needs = spread_sites needed saved ss (if asks needed saved s then slice_set needs s.callee true else needs)

  -- from the functions below number f to those that they call
  abbrev pub spread : ℕ → List Bool → List Bool
  spread zero needs = needs
  spread (suc f) needs = spread f (spread_sites (slice_index_or needs f false) (holds (outline_at os f).written q) (outline_at os f).sites needs)

  abbrev pub needing : List Bool
  needing = spread (length os) (replicate (length os) false)

abbrev pub is_needed : Placed → ℕ → ℕ → Bool
is_needed p f q = slice_index_or (needing (outlines_of p) q) f false

abbrev pub needed_of : Placed → ℕ → List ℕ
needed_of p f = chosen (is_needed p f) machine_registers

abbrev pub written : Placed → ℕ → Table
written p f = (outline_at (outlines_of p) f).written

abbrev pub housed : Placed → ℕ → Table
housed p f = (outline_at (outlines_of p) f).housed

-- a function saves what it writes and others need
abbrev pub saved_of : Placed → ℕ → List ℕ
saved_of p f = chosen (λ q. holds (written p f) q && is_needed p f q) machine_registers

abbrev pub homes_of : Placed → ℕ → List ℕ
homes_of p f = chosen (holds (housed p f)) machine_registers
