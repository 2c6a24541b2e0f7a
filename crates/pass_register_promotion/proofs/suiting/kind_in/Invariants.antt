use Rattle.std.proofs.Common.{◌≡◌, drop}
use Rattle.pass_register_promotion_law.specs.Suiting.{kind_in}
use Rattle.pass_register_promotion.specs.Residents.{residents_of}
use Rattle.pass_register_promotion.proofs.suiting.kind_in.Given as goal

abbrev pub invariant-loop-resident : goal.invariant-loop-resident
invariant-loop-resident l = kind_in (residents_of (drop l.resident-index l.residents)) l.object ≡ kind_in (residents_of l.residents) l.object
