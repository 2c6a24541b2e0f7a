use Rattle.std.proofs.Common.{◌≡◌, length}
use Rattle.path_guessed_flows.proofs.mixing.amounts_of.Given as goal

abbrev pub invariant-loop-k : goal.invariant-loop-k
invariant-loop-k l = length l.amounts.items ≡ length l.found.system.now.moves
