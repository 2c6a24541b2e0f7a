use Rattle.std.proofs.Common.{◌≡◌, drop}
use Rattle.pass_register_promotion_law.specs.Suiting.{is_resident}
use Rattle.pass_register_promotion.specs.Residents.{residents_of}
use Rattle.pass_register_promotion.proofs.suiting.is_resident.Given as goal

abbrev pub invariant-loop-resident : goal.invariant-loop-resident
invariant-loop-resident l = is_resident (residents_of (drop l.resident-index l.residents)) l.object ≡ is_resident (residents_of l.residents) l.object
