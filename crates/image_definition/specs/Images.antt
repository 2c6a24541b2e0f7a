-- The image of a program over places.
use Rattle.std.specs.Prelude.{ℕ, suc, ◌+◌, ◌≤◌, Bool, List, [], ◌∷◌, map, length, slice_index, if◌then◌else◌}
use Rattle.rv_core.specs.declared.regions.Region.TheVariants.{Spm}
use Rattle.rv_core.specs.Regions.{region_start, region_size}
use Rattle.rv_core.specs.Bytes.{le_words}
use Rattle.rv_core.specs.Images.{Image}
use Rattle.rv_core.specs.Words.{word_of}
use Rattle.asm_items.specs.Placings.{Blocks, Placing, blocks_size}
use Rattle.asm_forms.specs.Layouts.{formed}
use Rattle.asm_forms.specs.Regions.{Rows, bases_of, functions_size}
use Rattle.asm_forms.specs.Shorter.{functions_longest}
use Rattle.low_ir.specs.Places.{Placed}
use Rattle.asm_program.specs.Functions.{program_items}
use Rattle.asm_placed.specs.Exits.{exits_of}
use Rattle.asm_placed.specs.Written.{in_scratchpad, flash_words, scratchpad_words, placing_of}
use Rattle.image_segments.specs.Starts.{constants_start, placed_end}
use Rattle.image_segments.specs.Segments.{Data, spots_in, segments_of}
use Rattle.image_frames.specs.Frames.{frames_end}
use Rattle.image_frames.specs.Memories.{Placement, memory_of, FitsMemory}

-- how many bytes functions of a row take, from number f on
abbrev pub row_size : (ℕ → Bool) → ℕ → List Blocks → ℕ
row_size here f [] = 0
row_size here f (bs ∷ fs) = (if here f then blocks_size bs else 0) + row_size here (suc f) fs

module _ (pl : Placement) (p : Placed) where
  abbrev pub data_in : Data
  data_in = record { frames = frames_end p; placed = pl.objects; objects = p.objects }

  -- code begins in flash at 0, and in the scratchpad behind the arrays there
  abbrev pub rows_in : Rows
  rows_in = record { placed = pl.functions; flash = 0; scratchpad = placed_end (spots_in data_in) }

  abbrev pub items_in : List Blocks
  items_in = program_items (memory_of pl p) p

  abbrev pub formed_in : List Blocks
  formed_in = formed rows_in items_in

  abbrev pub placing_in : Placing
  placing_in = placing_of rows_in formed_in

  abbrev pub flash_bytes : List ℕ
  flash_bytes = le_words (map word_of (flash_words rows_in formed_in))

  abbrev pub scratchpad_bytes : List ℕ
  scratchpad_bytes = le_words (map word_of (scratchpad_words rows_in formed_in))

  -- the start code is the last function
  abbrev pub entry_in : ℕ
  entry_in = slice_index (bases_of rows_in formed_in) (length p.functions)

  abbrev pub image_in : Image
  image_in = record { entry = entry_in; segments = segments_of data_in flash_bytes scratchpad_bytes }

  abbrev pub exits_in : List ℕ
  exits_in = exits_of rows_in formed_in

  -- code whose items have their longest forms, and data, have room in their regions
  pub record FitsImage : Type 0 where
    pub memory : FitsMemory pl p
    pub flash : functions_size (functions_longest items_in) ≤ constants_start
    pub scratchpad : placed_end (spots_in data_in) + row_size (in_scratchpad rows_in) 0 (functions_longest items_in) ≤ region_start Spm + region_size Spm
