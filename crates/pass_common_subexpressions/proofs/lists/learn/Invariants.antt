use Rattle.pass_common_subexpressions.specs.Making.{AreOf}
use Rattle.pass_common_subexpressions.proofs.lists.learn.Given as goal

abbrev pub invariant-loop-fact : goal.invariant-loop-fact
invariant-loop-fact l = AreOf l.list l.initial.known → AreOf l.list l.known
