use Rattle.std.proofs.Common.{◌≡◌, ◌+◌, drop, None}
use Rattle.code_flow_system.specs.Claims.{region_flaws}
use Rattle.code_flow.specs.Faults.{first_from}
use Rattle.code_flow.proofs.flaws.region_flaw.Given as goal

abbrev pub invariant-loop-i : goal.invariant-loop-i
invariant-loop-i l = first_from l.from (region_flaws None l.regions) ≡ first_from (l.from + l.i) (region_flaws l.before (drop l.i l.regions))
