use Rattle.types_tree.specs.View.{program_of}
use Rattle.facts_most.specs.Ranked.{IsMostBelow}
use Rattle.facts_most.proofs.functions.fill_all.Given as goal

abbrev pub invariant-loop-rank : goal.invariant-loop-rank
invariant-loop-rank l = IsMostBelow (program_of l.program) l.bounds l.ranks l.rank l.most
