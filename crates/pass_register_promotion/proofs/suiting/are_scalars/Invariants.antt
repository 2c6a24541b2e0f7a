use Rattle.std.proofs.Common.{drop, map}
use Rattle.low_ir.specs.View.{object_of}
use Rattle.pass_register_promotion_law.specs.Suiting.{AreScalars}
use Rattle.pass_register_promotion.specs.Residents.{residents_of}
use Rattle.pass_register_promotion.proofs.suiting.are_scalars.Given as goal

abbrev pub invariant-loop-resident : goal.invariant-loop-resident
invariant-loop-resident l = AreScalars (map object_of l.objects) (residents_of (drop l.resident-index l.residents)) → AreScalars (map object_of l.objects) (residents_of l.residents)
