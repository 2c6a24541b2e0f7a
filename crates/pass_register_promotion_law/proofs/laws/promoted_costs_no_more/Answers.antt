use Rattle.std.proofs.Common.{subst, sym}
use Rattle.pass_register_promotion_law.specs.Laws.{CostsNoMore}
use Rattle.pass_register_promotion_law.proofs.Costs.{reach_less, weight_less}
use Rattle.pass_register_promotion_law.proofs.laws.promoted_costs_no_more.Goals as goal

pub returns : goal.returns
returns c = λ q r h. subst (CostsNoMore q) (sym h.is) (record { weight = weight_less h.residents q h.paid; reach = reach_less h.residents q })
