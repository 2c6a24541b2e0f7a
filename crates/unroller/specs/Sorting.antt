-- The copies of marks, while they are listed one after another.
use Rattle.std.specs.Prelude.{ℕ, zero, suc, List, [], ◌∷◌, ◌++◌}
use Rattle.high_pass.specs.Listing.{MarkEntry}
use Rattle.high_unrolled.specs.declared.made.Made.{Made}
use Rattle.high_unrolled.specs.declared.made.Made.TheVariants.{CopyOf, Behind}
use Rattle.high_unrolled.specs.Programs.{copies_from}

-- a copy more in the entry at the mark's place
abbrev pub with_copy : List MarkEntry → (mark copy : ℕ) → List MarkEntry
with_copy [] mark copy = []
with_copy (e ∷ es) zero copy = (record { old = e.old; new = e.new ++ copy ∷ [] }) ∷ es
with_copy (e ∷ es) (suc mark) copy = e ∷ with_copy es mark copy

abbrev pub with_made : List MarkEntry → Made → (number : ℕ) → List MarkEntry
with_made es (CopyOf mark) number = with_copy es mark number
with_made es (Behind id) number = es

-- the entries from a mark's on, each with its further copies among new marks that are numbered from n on
abbrev pub with_copies : (mark : ℕ) → List MarkEntry → (n : ℕ) → List Made → List MarkEntry
with_copies mark [] n made = []
with_copies mark (e ∷ es) n made = (record { old = e.old; new = e.new ++ copies_from n made mark }) ∷ with_copies (suc mark) es n made
