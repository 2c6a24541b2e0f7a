use Rattle.std.proofs.Common.{◌≡◌, ◌++◌, drop, map}
use Rattle.low_ir.specs.View.{claim_of}
use Rattle.pass_strength_reduction.proofs.program.same_claims.Given as goal

abbrev pub invariant-loop-claim : goal.invariant-loop-claim
invariant-loop-claim l = map claim_of l.same.items ++ map claim_of (drop l.claim-index l.claims) ≡ map claim_of l.claims
