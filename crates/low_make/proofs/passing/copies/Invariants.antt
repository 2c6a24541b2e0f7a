use Rattle.std.proofs.Common.{◌≡◌, take}
use Rattle.low_make.specs.View.{claims_of}
use Rattle.low_make.proofs.passing.copies.Given as goal

abbrev pub invariant-loop-claim : goal.invariant-loop-claim
invariant-loop-claim l = claims_of l.copies.items ≡ claims_of (take l.claim-index l.claims)
