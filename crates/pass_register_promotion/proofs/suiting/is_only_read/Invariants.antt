use Rattle.std.proofs.Common.{◌≡◌, drop}
use Rattle.pass_register_promotion_law.specs.Suiting.{is_only_read}
use Rattle.pass_register_promotion.specs.Residents.{residents_of}
use Rattle.pass_register_promotion.proofs.suiting.is_only_read.Given as goal

abbrev pub invariant-loop-resident : goal.invariant-loop-resident
invariant-loop-resident l = is_only_read (residents_of (drop l.resident-index l.residents)) l.object ≡ is_only_read (residents_of l.residents) l.object
