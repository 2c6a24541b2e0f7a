use Rattle.types_tree.proofs.Rows.{switch_view}
use Rattle.types_tree.proofs.statement.Statement.switch.Goals as goal

pub returns : goal.returns
returns c = switch_view c.args.test c.args.items c.args.at
