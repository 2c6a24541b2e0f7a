-- The words of the source's objects.
use Rattle.std.specs.Prelude.{ℕ, List, [], length, Option, Some, None, slice_index_or, slice_set}

abbrev pub Cells : Type 0
Cells = List (List (Option ℕ))

-- the word of an element, where it is there and was written
abbrev pub cell : Cells → (object index : ℕ) → Option ℕ
cell objects object index = slice_index_or (slice_index_or objects object []) index None

abbrev pub size : Cells → (object : ℕ) → ℕ
size objects object = length (slice_index_or objects object [])

-- the objects with a word written
abbrev pub put_cell : Cells → (object index word : ℕ) → Cells
put_cell objects object index word = slice_set objects object (slice_set (slice_index_or objects object []) index (Some word))
