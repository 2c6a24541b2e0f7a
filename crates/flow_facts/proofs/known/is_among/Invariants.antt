use Rattle.std.proofs.Common.{◌≡◌, drop}
use Rattle.facts_definitions.specs.FlowFacts.{is_among}
use Rattle.flow_facts.proofs.known.is_among.Given as goal

abbrev pub invariant-loop-i : goal.invariant-loop-i
invariant-loop-i l = is_among l.n l.ns ≡ is_among l.n (drop l.i l.ns)
