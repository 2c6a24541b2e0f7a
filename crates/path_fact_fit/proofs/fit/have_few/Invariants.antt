use Rattle.std.specs.List.{AllWithin}
use Rattle.path_fact_fit.specs.Few.{IsFewTerm}
use Rattle.path_fact_fit.proofs.fit.have_few.Given as goal

abbrev pub invariant-loop-i : goal.invariant-loop-i
invariant-loop-i l = AllWithin IsFewTerm l.terms 0 l.i
