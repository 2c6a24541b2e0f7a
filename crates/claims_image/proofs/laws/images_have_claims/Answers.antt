use Rattle.claims_image.proofs.Whole.{has_claims}
use Rattle.claims_image.proofs.laws.images_have_claims.Goals as goal

pub returns : goal.returns
returns c = λ pl p image formed sound named fits is. has_claims pl p image formed sound named fits is
