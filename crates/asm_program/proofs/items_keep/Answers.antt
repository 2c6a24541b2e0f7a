use Rattle.asm_program.proofs.ItemLemmas.{items_keep}
use Rattle.asm_program.proofs.items_keep.Goals as goal

pub returns : goal.returns
returns c = λ m p ok f b h less. items_keep m p ok f b h less
