use Rattle.std.proofs.Common.{◌≡◌, ◌+◌, drop, None}
use Rattle.code_flow_system.specs.Claims.{never_flaws}
use Rattle.code_flow.specs.Faults.{first_from}
use Rattle.code_flow.proofs.flaws.never_flaw.Given as goal

abbrev pub invariant-loop-i : goal.invariant-loop-i
invariant-loop-i l = first_from l.from (never_flaws None l.nevers) ≡ first_from (l.from + l.i) (never_flaws l.before (drop l.i l.nevers))
