use Rattle.make_pieces.proofs.Lists.{nothing_view}
use Rattle.make_pieces.proofs.statements.nothing.Goals as goal

pub returns : goal.returns
returns c = nothing_view c.new.result c.new.ensures.items
