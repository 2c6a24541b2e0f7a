-- What becomes of marks and loops. A mark is its own copy, also where what passed it is left out; a loop that stays has the
-- number of its place among those that do.
use Rattle.std.specs.Prelude.{ℕ, ◌+◌, ◌==◌, Bool, false, List, [], ◌∷◌, if◌then◌else◌}
use Rattle.std.specs.List.{range_with_len}
use Rattle.high_ir.specs.Tree.{Program}
use Rattle.high_pass.specs.Listing.{Listing, LoopEntry}
use Rattle.high_parts.specs.Same.{same_marks}
use Rattle.high_folded.specs.Folded.{kept_in}

-- a loop that is left out has no copy, and one that stays has one
abbrev pub gone : ℕ → LoopEntry
gone old = record { old = old; new = [] }

abbrev pub stays : ℕ → ℕ → LoopEntry
stays old id = record { old = old; new = (record { id = id; factor = 1 }) ∷ [] }

-- whether a loop is the next one that stays
abbrev pub is_next : ℕ → (kept : List ℕ) → Bool
is_next old [] = false
is_next old (k ∷ kept) = k == old

-- of loops, in order, those that are kept get the numbers from `next` on
abbrev pub loop_entries : (next : ℕ) → (olds kept : List ℕ) → List LoopEntry
loop_entries next [] kept = []
loop_entries next (old ∷ olds) [] = gone old ∷ loop_entries next olds []
loop_entries next (old ∷ olds) (k ∷ kept) = if k == old then stays old next ∷ loop_entries (next + 1) olds kept else gone old ∷ loop_entries next olds (k ∷ kept)

abbrev pub folded_listing : Program → Listing
folded_listing p = record { marks = same_marks p.marks; loops = loop_entries 0 (range_with_len 0 p.loops) (kept_in p.functions); nevers = [] }
