-- What the segments keep.
use Rattle.std.specs.Prelude.{◌≡◌, ◌≢◌, ℕ, ◌+◌, ◌*◌, ◌%◌, ◌^◌, ◌<◌, ◌≤◌, true, List, Some, Contains, take, slice_get, slice_index}
use Rattle.rv_core.specs.declared.image.Segment.{Segment}
use Rattle.rv_core.specs.declared.regions.Region.TheVariants.{Ram}
use Rattle.rv_core.specs.Regions.{region_start}
use Rattle.rv_core.specs.Images.{AreLoadable}
use Rattle.rv_core.specs.Memory.{loaded, read_from}
use Rattle.low_ir.specs.Arrays.{array_size}
use Rattle.low_ir.specs.declared.object.Storage.TheVariants.{Constant as Fixed', Local}
use Rattle.low_ir.specs.Kinds.{kind_bytes, width_of}
use Rattle.low_ir.specs.Code.{Object}
use Rattle.image_segments.specs.Rows.{addresses}
use Rattle.image_segments.specs.Starts.{starts_behind}
use Rattle.image_segments.specs.Segments.{Data, spots_in, segments_of, all_segments, FitSegments}

-- they can be loaded
abbrev pub SegmentsAreLoadable : Type 0
SegmentsAreLoadable = (d : Data) (flash scratchpad : List ℕ) → FitSegments d flash scratchpad → AreLoadable (segments_of d flash scratchpad)

-- none of them is left out that isn't empty, and there are no others
abbrev pub SegmentsAreThere : Type 0
SegmentsAreThere = (d : Data) (flash scratchpad : List ℕ) (s : Segment) → Contains (all_segments d flash scratchpad) s → s.size ≢ 0 → Contains (segments_of d flash scratchpad) s

abbrev pub NoOthers : Type 0
NoOthers = (d : Data) (flash scratchpad : List ℕ) (s : Segment) → Contains (segments_of d flash scratchpad) s → Contains (all_segments d flash scratchpad) s

-- each element of an array that has values is read as what is given for it, or 0
abbrev pub ElementsAreRead : Type 0
ElementsAreRead = (d : Data) (flash scratchpad : List ℕ) → FitSegments d flash scratchpad → (o : ℕ) (x : Object) (i : ℕ) → slice_get d.objects o ≡ Some x → x.storage ≢ Local → i < x.size
    → read_from (λ b. b.read) (width_of x.kind) (loaded (segments_of d flash scratchpad)) (slice_index (addresses (starts_behind d.frames (spots_in d)) (spots_in d)) o + kind_bytes x.kind * i) ≡ Some (slice_index (take x.size x.values) i % 2 ^ (8 * kind_bytes x.kind))

-- some bytes that lie in a segment which is read and written
pub record Opens (segments : List Segment) (a n : ℕ) : Type 0 where
  pub segment : Segment
  pub there : Contains segments segment
  pub read : segment.read ≡ true
  pub write : segment.write ≡ true
  pub from : segment.at ≤ a
  pub to : a + n ≤ segment.at + segment.size

-- frames, and arrays that aren't constant, do
abbrev pub FramesAreOpen : Type 0
FramesAreOpen = (d : Data) (flash scratchpad : List ℕ) (a n : ℕ) → region_start Ram ≤ a → a + n ≤ d.frames → 0 < n → Opens (segments_of d flash scratchpad) a n

abbrev pub ArraysAreOpen : Type 0
ArraysAreOpen = (d : Data) (flash scratchpad : List ℕ) (o : ℕ) (x : Object) → slice_get d.objects o ≡ Some x → x.storage ≢ Fixed' → 0 < array_size x
    → Opens (segments_of d flash scratchpad) (slice_index (addresses (starts_behind d.frames (spots_in d)) (spots_in d)) o) (array_size x)
