use Rattle.std.proofs.Common.{◌≡◌, [], replicate}
use Rattle.low_make.specs.View.{claims_of}
use Rattle.low_make.proofs.passing.nothing.Given as goal

abbrev pub invariant-loop : goal.invariant-loop
invariant-loop l = claims_of l.claims.items ≡ replicate l.counter []
