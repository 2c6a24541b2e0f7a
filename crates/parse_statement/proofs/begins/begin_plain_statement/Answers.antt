use Rattle.std.proofs.Common.{subst, sym}
use Rattle.parse_begun.specs.View.{Gives}
use Rattle.parse_statement.proofs.Others.{statement_other}
use Rattle.parse_statement.proofs.begins.begin_plain_statement.Goals as goal

pub returns-in_default : goal.returns-in_default
returns-in_default c f =
    let n = c.in_default in
    subst (λ moved. Gives f c.begin_operand.result moved) (sym (statement_other _ _ _ n.not-Semicolon n.not-LeftBrace n.not-If n.not-While n.not-Do n.not-For n.not-Switch n.not-Break n.not-Continue n.not-Return)) (c.begin_operand.ensures f)
