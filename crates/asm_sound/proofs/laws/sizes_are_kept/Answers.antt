use Rattle.asm_sound.proofs.FunctionLemmas.{sizes_kept}
use Rattle.asm_sound.proofs.laws.sizes_are_kept.Goals as goal

pub returns : goal.returns
returns c = sizes_kept
