use Rattle.path_fit.proofs.ShapeLemmas.{AreAlikeUpTo}
use Rattle.path_fit.proofs.loops.are_shapes_of.Given as goal

abbrev pub invariant-loop-i : goal.invariant-loop-i
invariant-loop-i l = AreAlikeUpTo l.i l.claims l.shapes
