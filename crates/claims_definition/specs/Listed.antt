-- What is claimed of laid code, in the order of addresses: exits, regions and loops; where marks stand, and the ranges of functions.
use Rattle.std.specs.Prelude.{ℕ, suc, ◌==◌, List, [], ◌∷◌, ◌++◌, length, map, Option, Some, None, if◌then◌else◌, slice_index_or}
use Rattle.std.specs.List.{flat_map, range_with_len}
use Rattle.rv_core.specs.declared.regions.Region.{Region}
use Rattle.code_flow_system.specs.declared.claims.LoopClaim.{LoopClaim}
use Rattle.code_flow_system.specs.declared.claims.Within.{Within}
use Rattle.code_flow_system.specs.Claims.{Claims}
use Rattle.asm_items.specs.Placings.{Blocks, Placing, base_of, blocks_of, end_of, start_of}
use Rattle.asm_forms.specs.Layouts.{formed}
use Rattle.asm_forms.specs.Regions.{Rows}
use Rattle.asm_graphs.specs.Laid.{last_of}
use Rattle.asm_placed.specs.Exits.{exits_of}
use Rattle.asm_placed.specs.Written.{placing_of}
use Rattle.low_ir.specs.Code.{Loop}
use Rattle.low_ir.specs.Formed.{opening}
use Rattle.low_ir.specs.Places.{Placed}
use Rattle.asm_program.specs.Frames.{Memory}
use Rattle.asm_program.specs.Functions.{PlacedBlock, function_in, program_items}
use Rattle.claims_definition.specs.Lines.{Access, blocks_accesses, lines}
use Rattle.claims_definition.specs.Orders.{in_order}
use Rattle.claims_definition.specs.Touches.{Touch, program_touches}

-- a program over places: where its data lie, and the rows in which its functions lie
pub record Laid : Type 0 where
  pub program : Placed
  pub memory : Memory
  -- by array, the region in which it lies
  pub regions : ℕ → Region
  pub rows : Rows

-- the items of its functions in the chosen forms, those of the start code last
abbrev pub functions_of : Laid → List Blocks
functions_of l = formed l.rows (program_items l.memory l.program)

abbrev pub placing : Laid → Placing
placing l = placing_of l.rows (functions_of l)

abbrev pub by_address : Laid → List ℕ
by_address l = in_order l.rows (length (functions_of l))

-- what the items of a block touch
abbrev pub touches_at : Laid → ℕ → ℕ → List Touch
touches_at l f b = slice_index_or (slice_index_or (program_touches l.memory l.program) f []) b []

-- loads and stores, and their lines
abbrev pub accesses_in : Laid → ℕ → List Access
accesses_in l f = blocks_accesses l.regions (base_of (placing l) f) (slice_index_or (program_touches l.memory l.program) f []) (blocks_of (placing l) f)

abbrev pub accesses_of : Laid → List Access
accesses_of l = flat_map (accesses_in l) (by_address l)

abbrev pub regions_of : Laid → List Within
regions_of l = lines (accesses_of l)

-- a loop claim of its own number and bounds, of the first copy
abbrev pub loop_claim : Laid → ℕ → Loop → LoopClaim
loop_claim l f k = record {
  source = k.id;
  factor = 1;
  min = k.least;
  max = k.most;
  header = start_of (placing l) f k.header;
  back = last_of (placing l) f k.latch;
}

-- the loops with a header, which are at most one
abbrev pub loops_at : ℕ → List Loop → List Loop
loops_at b [] = []
loops_at b (k ∷ ks) = if k.header == b then k ∷ loops_at b ks else loops_at b ks

-- those of n blocks from number b on
abbrev pub loops_from : List Loop → ℕ → List PlacedBlock → List Loop
loops_from ks b [] = []
loops_from ks b (x ∷ xs) = loops_at b ks ++ loops_from ks (suc b) xs

abbrev pub loops_in : Laid → ℕ → List LoopClaim
loops_in l f = let fn = function_in l.program f in map (loop_claim l f) (loops_from fn.loops 0 fn.blocks)

abbrev pub loops_of : Laid → List LoopClaim
loops_of l = flat_map (loops_in l) (by_address l)

abbrev pub claims_of : Laid → Claims
claims_of l = record { exits = exits_of l.rows (functions_of l); nevers = []; regions = regions_of l; loops = loops_of l; facts = [] }

-- the blocks with a mark, from number b on
abbrev pub marked_here : ℕ → ℕ → Option ℕ → List ℕ
marked_here mark b None = []
marked_here mark b (Some m) = if m == mark then b ∷ [] else []

abbrev pub marked_from : ℕ → ℕ → List PlacedBlock → List ℕ
marked_from mark b [] = []
marked_from mark b (x ∷ xs) = marked_here mark b x.mark ++ marked_from mark (suc b) xs

abbrev pub places_in : Laid → ℕ → ℕ → List ℕ
places_in l mark f = map (start_of (placing l) f) (marked_from mark 0 (function_in l.program f).blocks)

-- the addresses of a mark
abbrev pub places_of : Laid → ℕ → List ℕ
places_of l mark = flat_map (places_in l mark) (by_address l)

-- those of the marks below n, by number
abbrev pub places_below : Laid → ℕ → List (List ℕ)
places_below l n = map (places_of l) (range_with_len 0 n)

-- the range of a function, named by its opening mark; the start code has none
pub record CodeRange : Type 0 where
  pub function : Option ℕ
  pub first : ℕ
  pub end : ℕ

abbrev pub code_range : Laid → ℕ → CodeRange
code_range l f = record { function = opening (function_in l.program f); first = base_of (placing l) f; end = end_of (placing l) f }

abbrev pub code_ranges : Laid → List CodeRange
code_ranges l = map (code_range l) (by_address l)
