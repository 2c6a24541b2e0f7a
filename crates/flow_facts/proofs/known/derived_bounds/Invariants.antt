use Rattle.std.proofs.Common.{◌≡◌, drop}
use Rattle.facts_definitions.specs.FlowFacts.{derived_bounds}
use Rattle.flow_facts.proofs.known.derived_bounds.Given as goal

abbrev pub invariant-loop-i : goal.invariant-loop-i
invariant-loop-i l = derived_bounds l.derived l.number ≡ derived_bounds (drop l.i l.derived) l.number
