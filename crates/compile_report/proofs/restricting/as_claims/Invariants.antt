use Rattle.std.proofs.Common.{◌≡◌, map, take}
use Rattle.compile_report.specs.Restricted.{as_claim}
use Rattle.compile_report.proofs.restricting.as_claims.Given as goal

abbrev pub invariant-loop-fact : goal.invariant-loop-fact
invariant-loop-fact l = l.claims.items ≡ map as_claim (take l.fact-index l.facts)
