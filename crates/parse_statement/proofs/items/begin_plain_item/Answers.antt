use Rattle.std.proofs.Common.{subst, sym}
use Rattle.parse_begun.specs.View.{Gives}
use Rattle.parse_statement.proofs.Others.{item_other}
use Rattle.parse_statement.proofs.items.begin_plain_item.Goals as goal

pub returns-in_default : goal.returns-in_default
returns-in_default c f =
    let n = c.in_default in
    subst (λ moved. Gives f c.begin_statement_item.result moved) (sym (item_other _ _ _ _ n.not-RightBrace n.not-Case n.not-Default)) (c.begin_statement_item.ensures f)
