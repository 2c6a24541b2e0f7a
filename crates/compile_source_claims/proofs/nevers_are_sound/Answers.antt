use Rattle.compile_source_claims.proofs.Standing.{nevers_fine}
use Rattle.compile_source_claims.proofs.nevers_are_sound.Goals as goal

pub returns : goal.returns
returns c = λ names program facts m claims made handed. nevers_fine names program facts m made claims handed
