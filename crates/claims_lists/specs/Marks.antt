-- Marks with the addresses of their blocks.
use Rattle.std.specs.Prelude.{ℕ, suc, ◌==◌, List, [], ◌∷◌, ◌++◌, Option, None, Some, slice_index, if◌then◌else◌}
use Rattle.asm_forms.specs.declared.layouts.Layout.{Layout}
use Rattle.low_ir.specs.declared.places.LowReg.{LowReg}
use Rattle.claims_lists.specs.declared.marks.Marked.{Marked}
use Rattle.claims_lists.specs.Outlines.{outline_at}
use Rattle.claims_lists.specs.Places.{starts_in}

abbrev pub marked : Option ℕ → ℕ → List Marked
marked None a = []
marked (Some m) a = record { mark = m; at = a } ∷ []

-- of blocks from number b on, by their marks and where they begin
abbrev pub marked_from : List ℕ → ℕ → List (Option ℕ) → List Marked
marked_from starts b [] = []
marked_from starts b (m ∷ ms) = marked m (slice_index starts b) ++ marked_from starts (suc b) ms

abbrev pub marks_in : LowReg → Layout → ℕ → List Marked
marks_in code y f = marked_from (starts_in y f) 0 (outline_at code f).marks

-- the addresses of one mark, in order
abbrev pub places_among : ℕ → List Marked → List ℕ
places_among mark [] = []
places_among mark (x ∷ xs) = if x.mark == mark then x.at ∷ places_among mark xs else places_among mark xs
