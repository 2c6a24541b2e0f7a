-- What is known in a block of where values stand.
use Rattle.std.specs.Prelude.{◌≡◌, ℕ, suc, ◌<◌, ◌&&◌, Bool, true, false, nat_le, if◌then◌else◌, List, [], length, Option, Some, None, All, Vec, replicate, slice_index_or, slice_set}
use Rattle.std.specs.Global.{Global}
use Rattle.low_ir.specs.Effects.{is_member}
use Rattle.pass_copy_propagation_law.specs.Copies.{Beginnings, Standing}

-- by register: whether it lasts, so that all blocks may count on it at their beginning, and else in which register its value stands since when, and when it was
-- written last; the time when the block began, and the time now
pub record Knowing : Type 0 where
  pub lasting : List Bool
  pub places : List ℕ
  pub times : List ℕ
  pub written : List ℕ
  pub began : ℕ
  pub clock : ℕ

-- a value that was put there in this block, and not written over
abbrev pub if_still : Knowing → ℕ → ℕ → Option ℕ
if_still k place time = if nat_le k.began time && nat_le (slice_index_or k.written place 0) time then Some place else None

abbrev pub stands_in : Knowing → Bool → ℕ → Option ℕ
stands_in k true r = Some r
stands_in k false r = if_still k (slice_index_or k.places r 0) (slice_index_or k.times r 0)

abbrev pub stands : Knowing → Standing
stands k r = stands_in k (slice_index_or k.lasting r false) r

-- between blocks, what lasts
abbrev pub lasts : List Bool → Standing
lasts lasting r = if slice_index_or lasting r false then Some r else None

-- at the beginning of a block that counts on the registers of a list too
abbrev pub counted : List Bool → List ℕ → Standing
counted lasting list r = if slice_index_or lasting r false then Some r else (if is_member list r then Some r else None)

-- by block, each with its list
abbrev pub counted_by : List Bool → List (List ℕ) → Beginnings
counted_by lasting lists n = counted lasting (slice_index_or lists n [])

abbrev pub list_of : Vec ℕ Global → List ℕ
list_of list = list.items

-- a block begins
abbrev pub opened : Knowing → Knowing
opened k = record { lasting = k.lasting; places = k.places; times = k.times; written = k.written; began = k.clock; clock = k.clock }

-- the value of a register was written to another one, where that has its own value too
abbrev pub delivered : Knowing → ℕ → ℕ → Knowing
delivered k r place =
    record {
      lasting = k.lasting;
      places = slice_set (slice_set k.places place place) r place;
      times = slice_set (slice_set k.times place k.clock) r k.clock;
      written = slice_set k.written place k.clock;
      began = k.began;
      clock = suc k.clock;
    }

-- the value of a register was written to another one alone
abbrev pub parted : Knowing → ℕ → ℕ → Knowing
parted k r place =
    record {
      lasting = k.lasting;
      places = slice_set k.places r place;
      times = slice_set k.times r k.clock;
      written = slice_set k.written place k.clock;
      began = k.began;
      clock = suc k.clock;
    }

-- a register is a copy of what stands in another one
abbrev pub copied : Knowing → ℕ → ℕ → Knowing
copied k r place =
    record {
      lasting = k.lasting;
      places = slice_set k.places r place;
      times = slice_set k.times r k.clock;
      written = k.written;
      began = k.began;
      clock = suc k.clock;
    }

-- the value of a register stands nowhere any more
abbrev pub forgotten : Knowing → ℕ → Knowing
forgotten k r =
    record {
      lasting = k.lasting;
      places = k.places;
      times = slice_set k.times r 0;
      written = k.written;
      began = k.began;
      clock = k.clock;
    }

-- nothing is known yet
abbrev pub unknown : List Bool → ℕ → Knowing
unknown lasting size = record { lasting = lasting; places = replicate size 0; times = replicate size 0; written = replicate size 0; began = 1; clock = 1 }

-- the tables are of a function with so many registers, and all that is known is from before
pub record IsKnown (size : ℕ) (lasts : List Bool) (k : Knowing) : Type 0 where
  pub lasting : k.lasting ≡ lasts
  pub places : length k.places ≡ size
  pub times : length k.times ≡ size
  pub written : length k.written ≡ size
  pub before : All (λ time. time < k.clock) k.times
  pub begun : 0 < k.clock
