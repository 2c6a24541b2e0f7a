use Rattle.std.proofs.Common.{◌≡◌, length}
use Rattle.path_guessed_flows.proofs.mixing.add.Given as goal

abbrev pub invariant-loop-i : goal.invariant-loop-i
invariant-loop-i l = length l.amounts.items ≡ length l.fn.amounts.items
