use Rattle.std.proofs.Common.{◌≡◌, ◌++◌, drop, map}
use Rattle.low_ir.specs.View.{claim_of}
use Rattle.claims_definition.specs.Lines.{letters_of}
use Rattle.claims_regions.specs.Seen.{letters_in}
use Rattle.claims_making.specs.Sights.{region_in}
use Rattle.claims_making.proofs.sights.touched_by_claim.Given as goal

abbrev pub invariant-loop-claim : goal.invariant-loop-claim
invariant-loop-claim l = map letters_in l.by_claim.items ++ map (letters_of (region_in l.regions)) (map claim_of (drop l.claim-index l.claims)) ≡ map (letters_of (region_in l.regions)) (map claim_of l.claims)
