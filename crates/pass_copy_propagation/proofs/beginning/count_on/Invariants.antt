use Rattle.pass_copy_propagation.specs.Knowing.{Knowing}
use Rattle.pass_copy_propagation.specs.Making.{Begins}
use Rattle.pass_copy_propagation.proofs.beginning.count_on.Given as goal

abbrev pub invariant-loop-register : goal.invariant-loop-register
invariant-loop-register l = (before : Knowing) → Begins l.list before l.initial.known → Begins l.list before l.known
