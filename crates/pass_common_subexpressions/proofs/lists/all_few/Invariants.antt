use Rattle.std.proofs.Common.{All, take}
use Rattle.pass_common_subexpressions.specs.Making.{AreFew, facts_of}
use Rattle.pass_common_subexpressions.proofs.lists.all_few.Given as goal

abbrev pub invariant-loop-list : goal.invariant-loop-list
invariant-loop-list l = All (λ list. AreFew l.registers (facts_of list)) (take l.list-index l.lists)
