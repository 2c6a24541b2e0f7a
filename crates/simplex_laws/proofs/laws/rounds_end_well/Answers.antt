use Rattle.simplex_laws.proofs.RoundLemmas.{all_end_well}
use Rattle.simplex_laws.proofs.laws.rounds_end_well.Goals as goal

pub returns : goal.returns
returns c = all_end_well
