use Rattle.std.proofs.Common.{inl, inr, refl, arith}
use Rattle.call_graph.proofs.visit.higher.Goals as goal

pub returns-then-below-rank : goal.returns-then-below-rank
returns-then-below-rank c = inl (c.if-below-rank.true, refl)

pub returns-in-Some : goal.returns-in-Some
returns-in-Some c = inr (c.if-below-rank.false, omega (arith, c.in-Some.ensures))

pub returns-in-None : goal.returns-in-None
returns-in-None c = tt
