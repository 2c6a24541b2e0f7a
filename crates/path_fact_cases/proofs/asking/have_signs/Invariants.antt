use Rattle.std.proofs.Common.{drop, All}
use Rattle.code_flow_system.specs.Certificates.{fact_limits, IsSigned}
use Rattle.path_fact_cases.proofs.asking.have_signs.Given as goal

abbrev pub invariant-loop-i : goal.invariant-loop-i
invariant-loop-i l = All IsSigned (fact_limits (drop l.i l.facts) (drop l.i l.multipliers)) → All IsSigned (fact_limits l.facts l.multipliers)
