use Rattle.asm_graphs.proofs.PlacedLemmas.{is_laid}
use Rattle.asm_graphs.proofs.placed_is_laid.Goals as goal

pub returns : goal.returns
returns c = is_laid
