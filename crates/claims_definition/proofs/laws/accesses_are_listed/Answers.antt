use Rattle.claims_definition.proofs.Listing.{accesses_listed}
use Rattle.claims_definition.proofs.laws.accesses_are_listed.Goals as goal

pub returns : goal.returns
returns c = λ l is f b j t x there less low e h. accesses_listed l is f b j t x there less low e h
