use Rattle.std.proofs.Common.{subst, sym}
use Rattle.parse_begun.specs.View.{Gives}
use Rattle.parse_statement.proofs.Others.{answers_other, not_said}
use Rattle.parse_statement.proofs.heads.begin_answer.Goals as goal

pub returns : goal.returns
returns c f = subst (λ moved. Gives f c.begin_operand.result moved) (sym (answers_other _ _ _ _ (not_said _ _ (c.says.ensures f) c.if-says.false))) (c.begin_operand.ensures f)
