use Rattle.std.proofs.Common.{subst, sym}
use Rattle.pass_constant_hoisting.specs.Carried.{Ends}
use Rattle.pass_register_promotion_law.proofs.Follow.{carried}
use Rattle.pass_register_promotion_law.proofs.laws.promoted_carries.Goals as goal

pub returns : goal.returns
returns c = λ q r low h input n v u bytes good. subst (λ s. Ends s input v u) (sym h.is) (carried h.residents h.table q low h.may input n v u bytes good)
