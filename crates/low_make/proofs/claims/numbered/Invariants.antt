use Rattle.std.proofs.Common.{◌≡◌, ◌++◌, drop}
use Rattle.low_make.specs.View.{claims_of}
use Rattle.lower_definition.specs.Calls.{numbered}
use Rattle.low_make.proofs.claims.numbered.Given as goal

abbrev pub invariant-loop-claim : goal.invariant-loop-claim
invariant-loop-claim l = l.numbers.items ++ numbered l.next (claims_of (drop l.claim-index l.claims)) ≡ numbered l.first (claims_of l.claims)
