-- What of a source lies in the scratchpad, by the numbers of items.
use Rattle.std.specs.Prelude.{ℕ, ◌+◌, List, length}
use Rattle.low_ir.specs.Places.{Placed}
use Rattle.low_ir.specs.Placings.{placed_of}
use Rattle.image_frames.specs.Memories.{Placement}
use Rattle.image_frames.specs.Placings.{HasPlaced, MovesItems}
use Rattle.image_definition.specs.Sizes.{HasSizes, array_sizes, function_sizes, sizes_placed}
use Rattle.compile_stages.specs.declared.made.Made.{Made}

-- how many bytes it takes, by the sizes of items
abbrev pub placed_bytes : Placement → Placed → ℕ
placed_bytes pl p = sizes_placed pl.objects 0 (array_sizes p) + sizes_placed pl.functions 0 (function_sizes p)

-- the functions and arrays with these numbers lie there, and no others
abbrev pub HasNumbers : List ℕ → Placed → Placement → Type 0
HasNumbers ids p pl = HasPlaced ids (length p.functions) (length p.objects) pl

-- it has room there, and only items are placed
pub record Fits (pl : Placement) (p : Placed) : Type 0 where
  pub sizes : HasSizes pl p
  pub moves : MovesItems pl p

abbrev pub CanBePlaced : List ℕ → Placed → Type 0
CanBePlaced ids p = (pl : Placement) → HasNumbers ids p pl → Fits pl p

abbrev pub IsPlacedBy : List ℕ → Made → Type 0
IsPlacedBy ids m = HasNumbers ids (placed_of m.code) m.placement
