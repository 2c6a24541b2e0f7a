use Rattle.claims_definition.proofs.Rising.{lines_hold}
use Rattle.claims_definition.proofs.laws.lines_hold.Goals as goal

pub returns : goal.returns
returns c = λ a xs h. lines_hold a xs h
