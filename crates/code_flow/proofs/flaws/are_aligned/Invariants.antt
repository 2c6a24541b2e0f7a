use Rattle.std.proofs.Common.{◌≡◌, drop}
use Rattle.code_flow_system.specs.Claims.{are_aligned}
use Rattle.code_flow.proofs.flaws.are_aligned.Given as goal

abbrev pub invariant-loop-i : goal.invariant-loop-i
invariant-loop-i l = are_aligned l.terms ≡ are_aligned (drop l.i l.terms)
