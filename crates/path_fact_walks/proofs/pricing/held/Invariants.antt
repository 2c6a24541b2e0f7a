use Rattle.std.proofs.Common.{◌≡◌, ◌*◌, ◌≤◌, ◌^◌, ◌+ℤ◌, unsigned_abs, drop}
use Rattle.code_flow_system.specs.Certificates.{fact_limits, held}
use Rattle.path_fact_walks.proofs.pricing.held.Given as goal

abbrev pub invariant-loop-i : goal.invariant-loop-i
invariant-loop-i l = ((l.sum +ℤ held (fact_limits (drop l.i l.facts) (drop l.i l.multipliers)) l.at) ≡ held (fact_limits l.facts l.multipliers) l.at) × (unsigned_abs l.sum ≤ l.i * 2 ^ 109)
