use Rattle.std.proofs.Common.{◌≡◌, ◌+◌, drop, None}
use Rattle.code_flow_system.specs.Claims.{exit_flaws}
use Rattle.code_flow.specs.Faults.{first_from}
use Rattle.code_flow.proofs.flaws.exit_flaw.Given as goal

abbrev pub invariant-loop-i : goal.invariant-loop-i
invariant-loop-i l = first_from l.from (exit_flaws None l.exits) ≡ first_from (l.from + l.i) (exit_flaws l.before (drop l.i l.exits))
