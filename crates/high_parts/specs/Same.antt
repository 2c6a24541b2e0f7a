-- Marks that stay as they are: each is its own copy.
use Rattle.std.specs.Prelude.{ℕ, List, [], ◌∷◌, map}
use Rattle.std.specs.List.{range_with_len}
use Rattle.high_pass.specs.Listing.{MarkEntry}

abbrev pub same_mark : ℕ → MarkEntry
same_mark m = record { old = m; new = m ∷ [] }

abbrev pub same_marks : ℕ → List MarkEntry
same_marks marks = map same_mark (range_with_len 0 marks)
