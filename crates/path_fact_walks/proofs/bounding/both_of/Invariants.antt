use Rattle.std.proofs.Common.{◌≡◌, ◌++◌, drop}
use Rattle.path_places.specs.Duals.{both_of}
use Rattle.path_fact_walks.proofs.bounding.both_of.Given as goal

abbrev pub invariant-loop-i : goal.invariant-loop-i
invariant-loop-i l = l.both.items ++ both_of (drop l.i l.pairs) ≡ both_of l.pairs
