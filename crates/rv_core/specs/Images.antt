-- Images that can be loaded: segments in ascending order, each in one region, none over another (ELF32 program headers of type LOAD).
use Rattle.std.specs.Prelude.{◌≡◌, ◌⊎◌, ℕ, ◌+◌, ◌≤◌, ◌<◌, List, [], ◌∷◌, length, IsTrue}
use Rattle.rv_core.specs.declared.image.Segment.{Segment}
use Rattle.rv_core.specs.declared.regions.Region.{Region}
use Rattle.rv_core.specs.declared.regions.Region.TheVariants.{Flash, Spm, Ram}
use Rattle.rv_core.specs.Regions.{region_start, region_size}

-- where a run begins, and what is loaded before it
pub record Image : Type 0 where
  pub entry : ℕ
  pub segments : List Segment

-- the span of a segment lies in this region
pub record LiesIn (r : Region) (s : Segment) : Type 0 where
  pub from : region_start r ≤ s.at
  pub to : s.at + s.size ≤ region_start r + region_size r

-- a span that isn't empty lies in one region, code never in RAM, and what can be written never in flash
pub record IsPlaced (s : Segment) : Type 0 where
  pub region : LiesIn Flash s ⊎ (LiesIn Spm s ⊎ LiesIn Ram s)
  pub exec : IsTrue s.exec → LiesIn Ram s → ⊥
  pub write : IsTrue s.write → LiesIn Flash s → ⊥

pub record IsSegment (s : Segment) : Type 0 where
  pub filled : length s.bytes ≤ s.size
  pub not_both : IsTrue s.write → IsTrue s.exec → ⊥
  pub placed : 0 < s.size → IsPlaced s

abbrev pub AreSegments : List Segment → Type 0
AreSegments [] = Unit {0}
AreSegments (s ∷ ss) = IsSegment s × AreSegments ss

-- the address isn't above that of any segment
abbrev pub IsBefore : ℕ → List Segment → Type 0
IsBefore at [] = Unit {0}
IsBefore at (s ∷ ss) = (at ≤ s.at) × IsBefore at ss

abbrev pub IsAscending : List Segment → Type 0
IsAscending [] = Unit {0}
IsAscending (s ∷ ss) = IsBefore s.at ss × IsAscending ss

-- the spans of two segments have no address in common
abbrev pub Apart : Segment → Segment → Type 0
Apart s t = (s.size ≡ 0) ⊎ ((t.size ≡ 0) ⊎ ((s.at + s.size ≤ t.at) ⊎ (t.at + t.size ≤ s.at)))

abbrev pub ApartFrom : Segment → List Segment → Type 0
ApartFrom s [] = Unit {0}
ApartFrom s (t ∷ ts) = Apart s t × ApartFrom s ts

abbrev pub AreApart : List Segment → Type 0
AreApart [] = Unit {0}
AreApart (s ∷ ss) = ApartFrom s ss × AreApart ss

pub record AreLoadable (segments : List Segment) : Type 0 where
  pub few : length segments ≤ 16
  pub each : AreSegments segments
  pub ascending : IsAscending segments
  pub apart : AreApart segments
