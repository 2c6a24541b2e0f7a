use Rattle.pass_common_subexpressions.proofs.Table.{nothing_known}
use Rattle.pass_common_subexpressions.proofs.known.Known.new.Goals as goal

pub returns : goal.returns
returns c = nothing_known c.in_ok-facts.facts.items 32 c.in_ok-facts.ensures
