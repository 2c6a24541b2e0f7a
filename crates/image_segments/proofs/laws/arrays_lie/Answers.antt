use Rattle.image_segments.proofs.RowLemmas.{lies, behind}
use Rattle.image_segments.proofs.laws.arrays_lie.Goals as goal

pub returns-clause-inside : goal.returns-clause-inside
returns-clause-inside c = λ next ss o s rows e. lies next ss o s rows e

pub returns-clause-apart : goal.returns-clause-apart
returns-clause-apart c = λ next ss o n s t rows e k same less. behind next ss o n s t rows e k same less
