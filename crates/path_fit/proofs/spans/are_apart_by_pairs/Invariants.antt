use Rattle.std.proofs.Common.{drop}
use Rattle.path_fit.proofs.ApartLemmas.{ApartAlike}
use Rattle.path_fit.proofs.spans.are_apart_by_pairs.Given as goal

abbrev pub invariant-loop-i : goal.invariant-loop-i
invariant-loop-i l = ApartAlike l.spans (drop l.i l.spans)
