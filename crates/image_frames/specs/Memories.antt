-- Where the frames and arrays of a program over places lie.
use Rattle.std.specs.Prelude.{ℕ, Bool, false, List, Option, Some, None, slice_get, slice_index_or}
use Rattle.rv_core.specs.declared.regions.Region.{Region}
use Rattle.rv_core.specs.declared.regions.Region.TheVariants.{Ram}
use Rattle.low_ir.specs.Code.{Object}
use Rattle.low_ir.specs.Places.{Placed}
use Rattle.asm_program.specs.Frames.{Memory}
use Rattle.image_segments.specs.Rows.{Spot, spots, addresses, row_of}
use Rattle.image_segments.specs.Starts.{starts_behind, second_of, region_of, FitRegions}
use Rattle.image_frames.specs.Frames.{frames_of, frames_end}

-- by function and by array, whether it lies in the scratchpad
pub record Placement : Type 0 where
  pub functions : List Bool
  pub objects : List Bool

abbrev pub region_by : Bool → Option Object → Region
region_by placed None = Ram
region_by placed (Some x) = region_of (row_of placed x)

module _ (pl : Placement) (p : Placed) where
  abbrev pub spots_of : List Spot
  spots_of = spots pl.objects 0 p.objects

  abbrev pub starts_of : List ℕ
  starts_of = starts_behind (frames_end p) spots_of

  abbrev pub memory_of : Memory
  memory_of = record { frames = frames_of p; objects = addresses starts_of spots_of; second = second_of spots_of }

  abbrev pub regions_of : ℕ → Region
  regions_of o = region_by (slice_index_or pl.objects o false) (slice_get p.objects o)

  -- everything has room in its region
  abbrev pub FitsMemory : Type 0
  FitsMemory = FitRegions (frames_end p) spots_of
