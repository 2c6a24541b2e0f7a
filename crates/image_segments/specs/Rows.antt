-- Where arrays lie: each in a row, behind those of lower numbers in the same row.
use Rattle.std.specs.Prelude.{ℕ, suc, ◌+◌, ◌^◌, ◌<◌, ◌==◌, Bool, true, false, nat_le, if◌then◌else◌, List, [], ◌∷◌, slice_index, slice_index_or, slice_set}
use Rattle.low_ir.specs.declared.object.Storage.{Storage}
use Rattle.low_ir.specs.declared.object.Storage.TheVariants.{Constant as Fixed', Global, Local}
use Rattle.low_ir.specs.Arrays.{bytes_of, array_size}
use Rattle.low_ir.specs.Code.{Object}
use Rattle.image_segments.specs.declared.rows.Row.{Row}
use Rattle.image_segments.specs.declared.rows.Row.TheVariants.{Constants, Scratchpad, SmallLocals, SmallGlobals, LargeGlobals, LargeLocals}

-- what small arrays take at most
abbrev pub small_room : ℕ
small_room = 64

abbrev pub row_by : Storage → Bool → Row
row_by Fixed' small = Constants
row_by Global true = SmallGlobals
row_by Global false = LargeGlobals
row_by Local true = SmallLocals
row_by Local false = LargeLocals

abbrev pub row_of : Bool → Object → Row
row_of placed x = if placed then Scratchpad else row_by x.storage (nat_le (array_size x) small_room)

abbrev pub row_number : Row → ℕ
row_number Constants = 0
row_number Scratchpad = 1
row_number SmallLocals = 2
row_number SmallGlobals = 3
row_number LargeGlobals = 4
row_number LargeLocals = 5

-- the row of an array, by its number, and its room
pub record Spot : Type 0 where
  pub row : ℕ
  pub room : ℕ

abbrev pub spot_of : Bool → Object → Spot
spot_of placed x = record { row = row_number (row_of placed x); room = array_size x }

-- the arrays from number o on
abbrev pub spots : List Bool → ℕ → List Object → List Spot
spots placed o [] = []
spots placed o (x ∷ xs) = spot_of (slice_index_or placed o false) x ∷ spots placed (suc o) xs

-- where the next one of each row begins, behind a spot
abbrev pub moved : List ℕ → Spot → List ℕ
moved next s = slice_set next s.row (slice_index next s.row + s.room)

-- where arrays begin, where `next` says for each row where its next one does
abbrev pub addresses : List ℕ → List Spot → List ℕ
addresses next [] = []
addresses next (s ∷ ss) = slice_index next s.row ∷ addresses (moved next s) ss

-- what those of a row take together
abbrev pub row_room : ℕ → List Spot → ℕ
row_room r [] = 0
row_room r (s ∷ ss) = (if s.row == r then s.room else 0) + row_room r ss

-- the bytes of each array can be counted
abbrev pub HaveSizes : List Object → Type 0
HaveSizes [] = Unit {0}
HaveSizes (x ∷ xs) = (bytes_of x + 3 < 2 ^ 32) × HaveSizes xs

-- no row leads past the addresses of 32 bits
abbrev pub HaveRoom : List ℕ → List Spot → Type 0
HaveRoom next [] = Unit {0}
HaveRoom next (s ∷ ss) = (slice_index next s.row + s.room < 2 ^ 32) × HaveRoom (moved next s) ss
