use Rattle.std.proofs.Common.{ap, ◌∙◌}
use Rattle.high_ir.proofs.Rows.{statement_of-Seq}
use Rattle.high_ir.specs.Tree.{Seq}
use Rattle.high_renumber.proofs.Walks.{statements_pushed}
use Rattle.inliner.proofs.opening.seq_with.Goals as goal

pub returns : goal.returns
returns c = statement_of-Seq c.push.new.self ∙ ap Seq (statements_pushed c.args.parts.items _ c.args.last c.in_ok-push.ensures.items)
