use Rattle.types_tree.specs.View.{program_of}
use Rattle.facts_most.proofs.Table.{IsFilling}
use Rattle.facts_most.proofs.functions.fill.Given as goal

abbrev pub invariant-loop-f : goal.invariant-loop-f
invariant-loop-f l = IsFilling (program_of l.program) l.bounds l.ranks l.rank l.f l.most
