use Rattle.std.proofs.Common.{◌≡◌, ◌++◌, drop}
use Rattle.path_places.specs.Duals.{potentials_of}
use Rattle.path_values.proofs.terms.potentials.Given as goal

abbrev pub invariant-loop-i : goal.invariant-loop-i
invariant-loop-i l = l.potentials.items ++ potentials_of l.moves l.worths (drop l.i l.moves) ≡ potentials_of l.moves l.worths l.moves
