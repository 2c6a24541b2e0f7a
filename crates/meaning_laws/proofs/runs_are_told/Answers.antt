use Rattle.meaning_laws.proofs.Sources.{runs_are_told}
use Rattle.meaning_laws.proofs.runs_are_told.Goals as goal

pub returns : goal.returns
returns c = runs_are_told
