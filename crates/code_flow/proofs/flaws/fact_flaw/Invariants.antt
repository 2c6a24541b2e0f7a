use Rattle.std.proofs.Common.{◌≡◌, ◌+◌, drop}
use Rattle.code_flow_system.specs.Claims.{fact_flaws}
use Rattle.code_flow.specs.Faults.{first_from}
use Rattle.code_flow.proofs.flaws.fact_flaw.Given as goal

abbrev pub invariant-loop-i : goal.invariant-loop-i
invariant-loop-i l = first_from l.from (fact_flaws l.facts) ≡ first_from (l.from + l.i) (fact_flaws (drop l.i l.facts))
