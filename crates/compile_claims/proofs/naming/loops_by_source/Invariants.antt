use Rattle.std.proofs.Common.{◌≡◌, map, take}
use Rattle.std.specs.Prelude.{slice_index_or}
use Rattle.high_pass.specs.Composing.{no_origin}
use Rattle.compile_claims.specs.Named.{renamed}
use Rattle.compile_claims.proofs.naming.loops_by_source.Given as goal

abbrev pub invariant-loop-claim : goal.invariant-loop-claim
invariant-loop-claim l = l.loops.items ≡ map (λ c. renamed (slice_index_or l.origins c.source no_origin) c) (take l.claim-index l.claims)
