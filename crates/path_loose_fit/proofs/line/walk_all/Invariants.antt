use Rattle.std.proofs.Common.{◌≡◌, length}
use Rattle.path_loose_fit.proofs.line.walk_all.Given as goal

abbrev pub invariant-loop-i : goal.invariant-loop-i
invariant-loop-i l = (length l.worths.items ≡ length l.system.moves) × (length l.arrivals.items ≡ length l.system.moves) × (length l.turns.items ≡ length l.system.claims.loops)
