use Rattle.std.proofs.Common.{◌≡◌, ◌+◌, drop, None}
use Rattle.code_flow_system.specs.Claims.{loop_flaws}
use Rattle.code_flow.specs.Faults.{first_from}
use Rattle.code_flow.proofs.flaws.loop_flaw.Given as goal

abbrev pub invariant-loop-i : goal.invariant-loop-i
invariant-loop-i l = first_from l.from (loop_flaws None l.loops) ≡ first_from (l.from + l.i) (loop_flaws l.before (drop l.i l.loops))
