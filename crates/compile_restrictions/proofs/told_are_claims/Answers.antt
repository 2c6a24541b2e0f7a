use Rattle.compile_restrictions.proofs.Forms.{told-claims}
use Rattle.compile_restrictions.proofs.told_are_claims.Goals as goal

pub returns : goal.returns
returns c = told-claims
