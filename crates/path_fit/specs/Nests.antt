-- Ranges in the order in which they begin, and what it is for them to nest.
use Rattle.std.specs.Prelude.{ℕ, ◌<◌, ◌≤◌, List, length, slice_index_or}
use Rattle.std.specs.List.{AllAdjacentBelow}
use Rattle.code_flow_system.specs.declared.shapes.LoopShape.{LoopShape}

-- a range holds an address
abbrev pub IsFilled : LoopShape → Type 0
IsFilled l = l.first ≤ l.last

-- each range begins behind the beginning of the one before it
abbrev pub FirstsAscend : List LoopShape → Type 0
FirstsAscend ls = AllAdjacentBelow (λ k l. k.first < l.first) ls (length ls)

-- the ranges behind that one which begin in it end in it
abbrev pub IsClosed : List LoopShape → ℕ → Type 0
IsClosed ls i = (j : ℕ) (d : LoopShape) → i < j → j < length ls → (slice_index_or ls j d).first ≤ (slice_index_or ls i d).last → (slice_index_or ls j d).last ≤ (slice_index_or ls i d).last

abbrev pub AreClosedFrom : ℕ → List LoopShape → Type 0
AreClosedFrom n ls = (i : ℕ) → n ≤ i → i < length ls → IsClosed ls i
