use Rattle.std.specs.List.{AllWithin}
use Rattle.path_fact_fit.specs.Few.{IsFewFact}
use Rattle.path_fact_fit.proofs.fit.are_few_facts.Given as goal

abbrev pub invariant-loop-i : goal.invariant-loop-i
invariant-loop-i l = AllWithin IsFewFact l.facts 0 l.i
