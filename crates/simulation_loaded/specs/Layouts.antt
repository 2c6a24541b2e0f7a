-- The layout of a program over places in its image.
use Rattle.std.specs.Prelude.{ℕ, zero, suc, ◌+◌, ◌==◌, List, [], ◌∷◌, ◌++◌, length, if◌then◌else◌}
use Rattle.code_flow_system.specs.Moves.{code_by}
use Rattle.asm_items.specs.Items.{Starts, total}
use Rattle.asm_items.specs.Placings.{block_of, start_of}
use Rattle.low_ir.specs.declared.run.Began.{Began}
use Rattle.low_ir.specs.Places.{Placed}
use Rattle.asm_program.specs.Functions.{function_in}
use Rattle.simulation_relation.specs.Layouts.{Layout}
use Rattle.image_frames.specs.Needs.{needed_of}
use Rattle.image_frames.specs.Memories.{Placement, memory_of, regions_of}
use Rattle.image_definition.specs.Images.{rows_in, placing_in, image_in, exits_in}
use Rattle.claims_definition.specs.Listed.{accesses_in}

-- what begins at address a, if blocks begin where s says
module _ (s : Starts) (a : ℕ) where
  -- of function f's blocks below number n
  abbrev pub blocks_begun : ℕ → ℕ → List Began
  blocks_begun f zero = []
  blocks_begun f (suc n) = blocks_begun f n ++ (if s f n == a then record { function = f; block = n } ∷ [] else [])

  -- of the blocks of the functions below number n
  abbrev pub functions_begun : Placed → ℕ → List Began
  functions_begun p zero = []
  functions_begun p (suc n) = functions_begun p n ++ blocks_begun n (length (function_in p n).blocks)

module _ (pl : Placement) (p : Placed) where
  abbrev pub layout_of : Layout
  layout_of = record {
    program = p;
    memory = memory_of pl p;
    needs = needed_of p;
    regions = regions_of pl p;
    starts = start_of (placing_in pl p);
    stops = λ f b. start_of (placing_in pl p) f b + total (block_of (placing_in pl p) f b);
    code = code_by (image_in pl p) (exits_in pl p);
    begins = λ a. functions_begun (start_of (placing_in pl p)) a p (length p.functions);
    accesses = accesses_in (record { program = p; memory = memory_of pl p; regions = regions_of pl p; rows = rows_in pl p });
  }
