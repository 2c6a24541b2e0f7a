use Rattle.std.proofs.Common.{◌≡◌, ◌-◌, [], length, drop}
use Rattle.code_flow_system.specs.Moves.{code_by}
use Rattle.code_flow.specs.Faults.{crossing}
use Rattle.code_flow.proofs.faults.crossing.Given as goal

abbrev pub invariant-loop-k : goal.invariant-loop-k
invariant-loop-k l = l.least ≡ crossing (code_by l.image []) (drop (length l.moves - l.k) l.moves)
