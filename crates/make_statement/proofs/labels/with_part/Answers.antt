use Rattle.std.proofs.Common.{sym, ◌∙◌}
use Rattle.make_pieces.specs.View.{code_of}
use Rattle.make_statement.proofs.Items.{guarded_none}
use Rattle.make_statement.proofs.labels.with_part.Goals as goal

pub returns-then-is_empty : goal.returns-then-is_empty
returns-then-is_empty c = guarded_none c.args.noted c.args.number (code_of c.args.before) (code_of c.args.part) (sym c.is_empty.ensures ∙ c.if-is_empty.true)
