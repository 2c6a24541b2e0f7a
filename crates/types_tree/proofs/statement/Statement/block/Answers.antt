use Rattle.types_tree.proofs.Rows.{block_view}
use Rattle.types_tree.proofs.statement.Statement.block.Goals as goal

pub returns : goal.returns
returns c = block_view c.args.items c.args.at
