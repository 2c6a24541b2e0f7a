use Rattle.std.proofs.Common.{◌≡◌, drop}
use Rattle.code_flow_system.specs.Moves.{code_by}
use Rattle.code_flow.specs.Faults.{first_from, false_exits}
use Rattle.code_flow.proofs.faults.false_exit.Given as goal

abbrev pub invariant-loop-i : goal.invariant-loop-i
invariant-loop-i l = first_from 0 (false_exits (code_by l.image l.exits) l.walk l.exits) ≡ first_from l.i (false_exits (code_by l.image l.exits) l.walk (drop l.i l.exits))
