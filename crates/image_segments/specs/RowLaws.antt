-- What the places and the bytes of arrays keep.
use Rattle.std.specs.Prelude.{◌≡◌, ℕ, ◌+◌, ◌-◌, ◌*◌, ◌%◌, ◌^◌, ◌<◌, ◌≤◌, Bool, false, List, [], ◌∷◌, ◌++◌, length, take, Some, slice_get, slice_index, slice_index_or}
use Rattle.rv_core.specs.Memory.{number_at}
use Rattle.low_ir.specs.Kinds.{kind_bytes, width_of}
use Rattle.low_ir.specs.Code.{Object}
use Rattle.image_segments.specs.Rows.{Spot, spot_of, spots, addresses, row_room}
use Rattle.image_segments.specs.Contents.{row_bytes}

-- the numbers of rows are below n
abbrev pub AreRows : ℕ → List Spot → Type 0
AreRows n [] = Unit {0}
AreRows n (s ∷ ss) = (s.row < n) × AreRows n ss

-- an array lies in its row
pub record Lies (next : List ℕ) (ss : List Spot) (s : Spot) (at : ℕ) : Type 0 where
  pub from : slice_index next s.row ≤ at
  pub to : at + s.room ≤ slice_index next s.row + row_room s.row ss

abbrev pub ArraysLie : Type 0
ArraysLie = (next : List ℕ) (ss : List Spot) (o : ℕ) (s : Spot) → AreRows (length next) ss → slice_get ss o ≡ Some s → Lies next ss s (slice_index (addresses next ss) o)

-- of two in one row, that with the higher number lies behind the other
abbrev pub ArraysFollow : Type 0
ArraysFollow = (next : List ℕ) (ss : List Spot) (o n : ℕ) (s t : Spot) → AreRows (length next) ss → slice_get ss o ≡ Some s → slice_get ss n ≡ Some t → s.row ≡ t.row → o < n
    → slice_index (addresses next ss) o + s.room ≤ slice_index (addresses next ss) n

-- a row has as many bytes as its room
abbrev pub RowsAreFull : Type 0
RowsAreFull = (placed : List Bool) (r : ℕ) (xs : List Object) → length (row_bytes placed r 0 xs) ≡ row_room r (spots placed 0 xs)

-- element i of an array stands in the bytes of the array's row, with anything behind them: what is given for it, or 0
abbrev pub ElementsStand : Type 0
ElementsStand = (next : List ℕ) (placed : List Bool) (xs : List Object) (o : ℕ) (x : Object) (zs : List ℕ) (i : ℕ) → AreRows (length next) (spots placed 0 xs) → slice_get xs o ≡ Some x → i < x.size
    → number_at (width_of x.kind) (row_bytes placed (spot_of (slice_index_or placed o false) x).row 0 xs ++ zs) (slice_index (addresses next (spots placed 0 xs)) o - slice_index next (spot_of (slice_index_or placed o false) x).row + kind_bytes x.kind * i)
    ≡ slice_index (take x.size x.values) i % 2 ^ (8 * kind_bytes x.kind)
