use Rattle.simulation_kept.proofs.KeptLemmas.{claims_kept}
use Rattle.simulation_kept.proofs.laws.images_keep_claims.Goals as goal

pub returns : goal.returns
returns c = λ pl p s formed sound named fits sys t input n v u ends totals. claims_kept pl p s formed sound named fits sys t input n v u ends totals
