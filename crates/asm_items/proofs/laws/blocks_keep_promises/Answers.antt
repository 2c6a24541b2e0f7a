use Rattle.asm_items.proofs.MoveLemmas.{keeps_promises}
use Rattle.asm_items.proofs.laws.blocks_keep_promises.Goals as goal

pub returns : goal.returns
returns c = keeps_promises
