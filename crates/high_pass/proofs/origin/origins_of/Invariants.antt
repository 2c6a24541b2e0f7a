use Rattle.std.proofs.Common.{◌≡◌, ◌<◌, ℕ, drop, length, map}
use Rattle.std.specs.Prelude.{slice_index_or}
use Rattle.high_pass.specs.Composing.{no_origin, origin_among}
use Rattle.high_pass.specs.Listing.{loop_entry}
use Rattle.high_pass.proofs.origin.origins_of.Given as goal

abbrev pub invariant-loop-entry : goal.invariant-loop-entry
invariant-loop-entry l =
    (length l.origins.items ≡ l.loops)
    × ((k : ℕ) → k < l.loops → origin_among (map loop_entry (drop l.entry-index l.whole)) k (slice_index_or l.origins.items k no_origin) ≡ origin_among (map loop_entry l.whole) k no_origin)
