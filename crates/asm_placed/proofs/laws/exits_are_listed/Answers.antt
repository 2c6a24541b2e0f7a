use Rattle.asm_placed.proofs.Exits.{exits_listed}
use Rattle.asm_placed.proofs.laws.exits_are_listed.Goals as goal

pub returns : goal.returns
returns c = exits_listed
