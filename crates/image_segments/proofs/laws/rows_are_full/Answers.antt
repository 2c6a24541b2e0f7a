use Rattle.image_segments.proofs.ContentLemmas.{row_length}
use Rattle.image_segments.proofs.laws.rows_are_full.Goals as goal

pub returns : goal.returns
returns c = λ placed r xs. row_length placed r 0 xs
