use Rattle.std.proofs.Common.{◌≡◌, drop}
use Rattle.code_flow_system.specs.Moves.{code_by}
use Rattle.code_flow.specs.Faults.{first_stray}
use Rattle.code_flow.proofs.faults.first_stray.Given as goal

abbrev pub invariant-loop-place : goal.invariant-loop-place
invariant-loop-place l = first_stray (code_by l.image l.exits) 0 l.marks ≡ first_stray (code_by l.image l.exits) l.place (drop l.place l.marks)
