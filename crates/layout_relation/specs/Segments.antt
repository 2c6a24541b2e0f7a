-- The segments of an image: the bytes that they keep, what they take of a region, and in which regions there are some.
use Rattle.std.specs.Prelude.{◌≡◌, ℕ, ◌+◌, ◌<◌, true, List, [], ◌∷◌, length, Contains, if◌then◌else◌}
use Rattle.rv_core.specs.declared.image.Segment.{Segment}
use Rattle.rv_core.specs.declared.regions.Region.{Region}
use Rattle.rv_core.specs.declared.regions.Region.TheVariants.{Flash, Spm, Ram}
use Rattle.rv_core.specs.Regions.{lies_in}
use Rattle.rv_core.specs.Images.{LiesIn}
use Rattle.code_flow_system.specs.declared.claims.Within.{Within}

-- how many bytes they keep
abbrev pub bytes_kept : List Segment → ℕ
bytes_kept [] = 0
bytes_kept (s ∷ ss) = length s.bytes + bytes_kept ss

-- how much those that begin in a region take
abbrev pub taken_in : Region → List Segment → ℕ
taken_in r [] = 0
taken_in r (s ∷ ss) = (if lies_in r s.at then s.size else 0) + taken_in r ss

-- one that isn't empty lies in the region
pub record IsFilled (segments : List Segment) (r : Region) : Type 0 where
  pub segment : Segment
  pub there : Contains segments segment
  pub some : 0 < segment.size
  pub lies : LiesIn r segment

-- in each of the regions that a line names
pub record AreFilled (segments : List Segment) (w : Within) : Type 0 where
  pub flash : w.flash ≡ true → IsFilled segments Flash
  pub spm : w.spm ≡ true → IsFilled segments Spm
  pub ram : w.ram ≡ true → IsFilled segments Ram
