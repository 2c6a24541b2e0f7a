use Rattle.types_declaration.proofs.Lists.{SoFar}
use Rattle.types_declaration.proofs.values.check_values.Given as goal

abbrev pub invariant-loop-source : goal.invariant-loop-source
invariant-loop-source l = SoFar l.kind l.given l.table l.source-index l.exprs.items l.void l.fault
