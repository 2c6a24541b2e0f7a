-- The same program again, in which each mark and each loop is its own copy.
use Rattle.std.specs.Prelude.{◌≡◌, ℕ, [], ◌∷◌, map}
use Rattle.std.specs.List.{range_with_len}
use Rattle.high_ir.specs.Tree.{Program}
use Rattle.high_pass.specs.Listing.{Listing, LoopEntry}
use Rattle.high_parts.specs.Same.{same_marks}

abbrev pub same_loop : ℕ → LoopEntry
same_loop k = record { old = k; new = (record { id = k; factor = 1 }) ∷ [] }

abbrev pub same_listing : Program → Listing
same_listing p = record {
  marks = same_marks p.marks;
  loops = map same_loop (range_with_len 0 p.loops);
  nevers = [];
}

pub record IsSame (old new : Program) (copies : Listing) : Type 0 where
  pub program : new ≡ old
  pub listed : copies ≡ same_listing old
