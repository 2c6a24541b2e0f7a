use Rattle.types_expression.proofs.Arguments.{SoFar}
use Rattle.types_expression.proofs.walk.+checker.Given as goal

abbrev pub invariant-check_arguments-loop-i : goal.invariant-check_arguments-loop-i
invariant-check_arguments-loop-i l = SoFar l.given l.params l.table l.i l.exprs.items l.void l.fit l.fault
