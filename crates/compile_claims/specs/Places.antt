-- Where marks stand.
use Rattle.std.specs.Prelude.{ℕ, List, [], slice_index_or}

-- the addresses of a mark, of those that are listed for each
abbrev pub places_at : List (List ℕ) → ℕ → List ℕ
places_at places mark = slice_index_or places mark []
