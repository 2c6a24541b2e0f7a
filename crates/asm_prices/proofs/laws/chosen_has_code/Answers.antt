use Rattle.asm_prices.proofs.ChosenLemmas.{chosen_has_code}
use Rattle.asm_prices.proofs.laws.chosen_has_code.Goals as goal

pub returns : goal.returns
returns c = chosen_has_code
