use Rattle.std.proofs.Common.{◌≡◌, ◌<◌, ℕ, drop, length}
use Rattle.std.specs.Prelude.{slice_index_or}
use Rattle.high_pass.specs.Composing.{no_origin, origin_within}
use Rattle.high_pass.proofs.origin.note_origins.Given as goal

abbrev pub invariant-loop-copy : goal.invariant-loop-copy
invariant-loop-copy l = (k : ℕ) → k < length l.initial.origins → origin_within l.entry.old (drop l.copy-index l.copy-items) k (slice_index_or l.origins k no_origin) ≡ origin_within l.entry.old l.copy-items k (slice_index_or l.initial.origins k no_origin)
