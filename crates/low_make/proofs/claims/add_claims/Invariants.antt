use Rattle.std.proofs.Common.{◌≡◌, ◌++◌, drop, map}
use Rattle.low_ir.specs.View.{claim_of}
use Rattle.low_make.specs.View.{claims_of}
use Rattle.lower_definition.specs.Calls.{claims_among}
use Rattle.low_make.proofs.claims.add_claims.Given as goal

abbrev pub invariant-loop-claim : goal.invariant-loop-claim
invariant-loop-claim l = map claim_of l.all.items ++ claims_among (claims_of (drop l.claim-index l.claims)) ≡ map claim_of l.initial.all.items ++ claims_among (claims_of l.claims)
