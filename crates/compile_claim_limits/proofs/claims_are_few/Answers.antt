use Rattle.compile_claim_limits.proofs.Claims.{claims_counted}
use Rattle.compile_claim_limits.proofs.claims_are_few.Goals as goal

pub returns : goal.returns
returns c = λ names program facts m made. claims_counted names program facts m made
