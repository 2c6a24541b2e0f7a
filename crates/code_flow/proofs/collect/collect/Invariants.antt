use Rattle.std.proofs.Common.{◌≡◌, ◌++◌, drop}
use Rattle.code_flow_system.specs.Moves.{code_by}
use Rattle.code_flow.specs.Faults.{collected}
use Rattle.code_flow.proofs.collect.collect.Given as goal

abbrev pub invariant-loop-place : goal.invariant-loop-place
invariant-loop-place l = l.moves.items ++ collected (code_by l.image l.exits) l.place (drop l.place l.marks) ≡ collected (code_by l.image l.exits) 0 l.marks
