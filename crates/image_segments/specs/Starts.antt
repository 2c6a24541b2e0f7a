-- Where the rows of arrays begin: constants at the end of flash, what is placed at the beginning of the scratchpad, and the others in
-- RAM behind the frames of functions.
use Rattle.std.specs.Prelude.{ℕ, ◌+◌, ◌^◌, ◌≤◌, nat_lt, if◌then◌else◌, List, [], ◌∷◌}
use Rattle.rv_core.specs.declared.regions.Region.{Region}
use Rattle.rv_core.specs.declared.regions.Region.TheVariants.{Flash, Spm, Ram}
use Rattle.rv_core.specs.Regions.{region_start, region_size}
use Rattle.image_segments.specs.declared.rows.Row.{Row}
use Rattle.image_segments.specs.declared.rows.Row.TheVariants.{Constants, Scratchpad, SmallLocals, SmallGlobals, LargeGlobals, LargeLocals}
use Rattle.image_segments.specs.Rows.{Spot, row_room}

abbrev pub constants_start : ℕ
constants_start = 0x7C_0000

-- by row, if the frames end here
abbrev pub starts_behind : ℕ → List Spot → List ℕ
starts_behind frames ss =
    constants_start ∷ region_start Spm ∷ frames ∷ (frames + row_room 2 ss) ∷ (frames + row_room 2 ss + row_room 3 ss) ∷ (frames + row_room 2 ss + row_room 3 ss + row_room 4 ss) ∷ []

-- the second base: in the middle of the first 4096 bytes of what is placed, else of the constants, where there are such
abbrev pub second_of : List Spot → ℕ
second_of ss =
    if nat_lt 0 (row_room 1 ss) then region_start Spm + 2 ^ 11
    else (if nat_lt 0 (row_room 0 ss) then constants_start + 2 ^ 11 else 0)

-- where what is placed ends, and everything in RAM
abbrev pub placed_end : List Spot → ℕ
placed_end ss = region_start Spm + row_room 1 ss

abbrev pub ram_end : ℕ → List Spot → ℕ
ram_end frames ss = frames + row_room 2 ss + row_room 3 ss + row_room 4 ss + row_room 5 ss

abbrev pub region_of : Row → Region
region_of Constants = Flash
region_of Scratchpad = Spm
region_of SmallLocals = Ram
region_of SmallGlobals = Ram
region_of LargeGlobals = Ram
region_of LargeLocals = Ram

-- each row lies in its region
pub record FitRegions (frames : ℕ) (ss : List Spot) : Type 0 where
  pub constants : constants_start + row_room 0 ss ≤ region_start Flash + region_size Flash
  pub scratchpad : placed_end ss ≤ region_start Spm + region_size Spm
  pub ram : ram_end frames ss ≤ region_start Ram + region_size Ram
