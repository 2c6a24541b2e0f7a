use Rattle.std.proofs.Common.{drop}
use Rattle.path_fit.proofs.NestLemmas.{NestAlike}
use Rattle.path_fit.proofs.nest.nest_by_pairs.Given as goal

abbrev pub invariant-loop-i : goal.invariant-loop-i
invariant-loop-i l = NestAlike l.shapes (drop l.i l.shapes)
