use Rattle.std.proofs.Common.{subst, sym}
use Rattle.low_ir.specs.Formed.{IsLow}
use Rattle.pass_register_promotion_law.proofs.Formed.{formed}
use Rattle.pass_register_promotion_law.proofs.laws.promoted_is_low.Goals as goal

pub returns : goal.returns
returns c = λ q r h low. subst IsLow (sym h.is) (formed h.residents h.table q h.may low)
