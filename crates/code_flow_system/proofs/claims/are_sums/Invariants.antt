use Rattle.std.proofs.Common.{ℕ, ◌<◌, get_or}
use Rattle.code_flow_system.specs.declared.claims.FactClaim.{FactClaim}
use Rattle.code_flow_system.specs.Claims.{AreSums}
use Rattle.code_flow_system.proofs.claims.are_sums.Given as goal

abbrev pub invariant-loop-i : goal.invariant-loop-i
invariant-loop-i l = (k : ℕ) (d : FactClaim) → k < l.i → AreSums (get_or l.facts k d)
