use Rattle.std.proofs.Common.{All, take}
use Rattle.pass_common_subexpressions_law.specs.Facts.{Knows}
use Rattle.pass_common_subexpressions.specs.Making.{fact_of}
use Rattle.pass_common_subexpressions.proofs.lists.knows_all.Given as goal

abbrev pub invariant-loop-fact : goal.invariant-loop-fact
invariant-loop-fact l = All (λ f. Knows l.known (fact_of f)) (take l.fact-index l.list)
