use Rattle.std.proofs.Common.{length}
use Rattle.pass_register_promotion_law.specs.Suiting.{AreDistinct}
use Rattle.pass_register_promotion.specs.Residents.{residents_of}
use Rattle.pass_register_promotion.proofs.suiting.are_distinct.Given as goal

abbrev pub invariant-loop-first : goal.invariant-loop-first
invariant-loop-first l = AreDistinct (residents_of l.rest) → AreDistinct (residents_of l.residents)

abbrev pub decreases-loop-first : goal.decreases-loop-first
decreases-loop-first l = length l.rest
