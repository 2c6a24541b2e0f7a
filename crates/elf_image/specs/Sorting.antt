-- Segments in ascending order of addresses, equal ones in the order that they had.
use Rattle.std.specs.Prelude.{List, [], ◌∷◌, nat_le, if◌then◌else◌}
use Rattle.rv_core.specs.declared.image.Segment.{Segment}

-- an ascending list with a segment before those that are not below it
abbrev pub put_first : Segment → List Segment → List Segment
put_first s [] = s ∷ []
put_first s (t ∷ ts) = if nat_le s.at t.at then s ∷ t ∷ ts else t ∷ put_first s ts

abbrev pub sorted : List Segment → List Segment
sorted [] = []
sorted (s ∷ ss) = put_first s (sorted ss)

-- the same with a segment behind those that are not above it
abbrev pub put_last : Segment → List Segment → List Segment
put_last s [] = s ∷ []
put_last s (t ∷ ts) = if nat_le t.at s.at then t ∷ put_last s ts else s ∷ t ∷ ts
