use Rattle.std.specs.List.{AllWithin}
use Rattle.path_fit.specs.Loops.{EntersBy}
use Rattle.path_fit.proofs.loops.is_entered.Given as goal

abbrev pub invariant-loop-i : goal.invariant-loop-i
invariant-loop-i l = AllWithin (EntersBy l.fn.shape l.moves) l.there 0 l.i
