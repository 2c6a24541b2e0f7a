use Rattle.std.proofs.Common.{◌≡◌, ◌++◌, drop, map}
use Rattle.low_ir.specs.View.{claim_of}
use Rattle.claims_movables.specs.Alone.{alone}
use Rattle.claims_movables.proofs.alone.alone_by_claim.Given as goal

abbrev pub invariant-loop-claim : goal.invariant-loop-claim
invariant-loop-claim l = l.by_claim.items ++ map alone (map claim_of (drop l.claim-index l.claims)) ≡ map alone (map claim_of l.claims)
