-- The segments of an image: code and data, region by region.
use Rattle.std.specs.Prelude.{ℕ, ◌+◌, ◌-◌, ◌==◌, ◌≤◌, Bool, true, false, if◌then◌else◌, List, [], ◌∷◌, ◌++◌, length, slice_index}
use Rattle.rv_core.specs.declared.image.Segment.{Segment}
use Rattle.rv_core.specs.declared.regions.Region.TheVariants.{Spm, Ram}
use Rattle.rv_core.specs.Regions.{region_start, region_size}
use Rattle.low_ir.specs.Code.{Object}
use Rattle.image_segments.specs.Rows.{Spot, spots, row_room}
use Rattle.image_segments.specs.Contents.{row_bytes}
use Rattle.image_segments.specs.Starts.{constants_start, starts_behind, placed_end, FitRegions}

abbrev pub code_segment : ℕ → List ℕ → Segment
code_segment at bytes = record { at = at; bytes = bytes; size = length bytes; read = true; write = false; exec = true }

abbrev pub data_segment : ℕ → List ℕ → ℕ → Bool → Segment
data_segment at bytes size write = record { at = at; bytes = bytes; size = size; read = true; write = write; exec = false }

-- those that aren't empty
abbrev pub present : List Segment → List Segment
present [] = []
present (s ∷ ss) = if s.size == 0 then present ss else s ∷ present ss

-- where frames end, and the arrays, with those that are placed in the scratchpad
pub record Data : Type 0 where
  pub frames : ℕ
  pub placed : List Bool
  pub objects : List Object

abbrev pub spots_in : Data → List Spot
spots_in d = spots d.placed 0 d.objects

-- the segment of a row, with the values of its arrays or without
abbrev pub row_segment : Data → ℕ → List ℕ → Bool → Segment
row_segment d r bytes write = data_segment (slice_index (starts_behind d.frames (spots_in d)) r) bytes (row_room r (spots_in d)) write

abbrev pub values_in : Data → ℕ → List ℕ
values_in d r = row_bytes d.placed r 0 d.objects

-- what lies in flash and in the scratchpad, and in RAM, in ascending order; local arrays have no values
abbrev pub low_segments : Data → List ℕ → List ℕ → List Segment
low_segments d flash scratchpad =
    code_segment 0 flash
    ∷ row_segment d 0 (values_in d 0) false
    ∷ row_segment d 1 (values_in d 1) true
    ∷ code_segment (placed_end (spots_in d)) scratchpad
    ∷ []

abbrev pub ram_segments : Data → List Segment
ram_segments d =
    data_segment (region_start Ram) [] (d.frames - region_start Ram) true
    ∷ row_segment d 2 [] true
    ∷ row_segment d 3 (values_in d 3) true
    ∷ row_segment d 4 (values_in d 4) true
    ∷ row_segment d 5 [] true
    ∷ []

abbrev pub all_segments : Data → List ℕ → List ℕ → List Segment
all_segments d flash scratchpad = low_segments d flash scratchpad ++ ram_segments d

abbrev pub segments_of : Data → List ℕ → List ℕ → List Segment
segments_of d flash scratchpad = present (all_segments d flash scratchpad)

-- code and data lie in their regions
pub record FitSegments (d : Data) (flash scratchpad : List ℕ) : Type 0 where
  pub rows : FitRegions d.frames (spots_in d)
  pub frames : region_start Ram ≤ d.frames
  pub flash_code : length flash ≤ constants_start
  pub scratchpad_code : placed_end (spots_in d) + length scratchpad ≤ region_start Spm + region_size Spm
