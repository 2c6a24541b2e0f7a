use Rattle.std.proofs.Common.{◌≡◌, drop}
use Rattle.facts_definitions.specs.FlowFacts.{is_twice}
use Rattle.flow_facts.proofs.known.is_twice.Given as goal

abbrev pub invariant-loop-i : goal.invariant-loop-i
invariant-loop-i l = is_twice l.n l.ns ≡ is_twice l.n (drop l.i l.ns)
