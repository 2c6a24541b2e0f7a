-- The bytes of arrays at first: the values that are given, low bytes first, and zeros behind them.
use Rattle.std.specs.Prelude.{ℕ, suc, ◌-◌, ◌==◌, Bool, false, if◌then◌else◌, List, [], ◌∷◌, ◌++◌, length, take, replicate, slice_index_or}
use Rattle.std.specs.Int.{w32, to_le_bytes}
use Rattle.low_ir.specs.Arrays.{array_size}
use Rattle.low_ir.specs.declared.object.Kind.{Kind}
use Rattle.low_ir.specs.Kinds.{kind_bytes}
use Rattle.low_ir.specs.Code.{Object}
use Rattle.image_segments.specs.Rows.{spot_of}

-- as many low bytes of a word as an element has
abbrev pub element_bytes : Kind → ℕ → List ℕ
element_bytes kind v = take (kind_bytes kind) (to_le_bytes w32 v)

abbrev pub elements_bytes : Kind → List ℕ → List ℕ
elements_bytes kind [] = []
elements_bytes kind (v ∷ vs) = element_bytes kind v ++ elements_bytes kind vs

abbrev pub filled : List ℕ → ℕ → List ℕ
filled bytes n = bytes ++ replicate (n - length bytes) 0

abbrev pub object_bytes : Object → List ℕ
object_bytes x = filled (elements_bytes x.kind (take x.size x.values)) (array_size x)

-- the bytes of a row, of the arrays from number o on
abbrev pub row_bytes : List Bool → ℕ → ℕ → List Object → List ℕ
row_bytes placed r o [] = []
row_bytes placed r o (x ∷ xs) =
    if (spot_of (slice_index_or placed o false) x).row == r then object_bytes x ++ row_bytes placed r (suc o) xs else row_bytes placed r (suc o) xs
