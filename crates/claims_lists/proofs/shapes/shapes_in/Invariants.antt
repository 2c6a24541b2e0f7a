use Rattle.std.proofs.Common.{◌≡◌, ◌++◌, drop, map}
use Rattle.claims_lists.specs.Spans.{shape_in}
use Rattle.claims_lists.proofs.shapes.shapes_in.Given as goal

abbrev pub invariant-loop-claim : goal.invariant-loop-claim
invariant-loop-claim l = l.shapes.items ++ map shape_in (drop l.claim-index l.claims) ≡ map shape_in l.claims
