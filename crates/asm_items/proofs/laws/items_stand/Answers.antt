use Rattle.asm_items.proofs.PlacedLemmas.{items_stand}
use Rattle.asm_items.proofs.laws.items_stand.Goals as goal

pub returns : goal.returns
returns c = λ p code f a xs h e. items_stand code p f a xs h e
