use Rattle.std.proofs.Common.{◌≡◌, ◌++◌, drop}
use Rattle.code_flow_system.proofs.claims.copied_facts.Given as goal

abbrev pub invariant-loop-i : goal.invariant-loop-i
invariant-loop-i l = l.copies.items ++ drop l.i l.facts ≡ l.facts
