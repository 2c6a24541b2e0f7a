use Rattle.std.proofs.Common.{subst, sym}
use Rattle.parse_begun.specs.View.{Gives}
use Rattle.parse_statement.proofs.Others.{noted_item_other}
use Rattle.parse_statement.proofs.items.begin_noted_item.Goals as goal

pub returns-in_default : goal.returns-in_default
returns-in_default c f = subst (λ moved. Gives f c.begin_statement_item.result moved) (sym (noted_item_other _ _ _ _ _ c.in_default.not-FlowRestriction)) (c.begin_statement_item.ensures f)
