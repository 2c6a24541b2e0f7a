use Rattle.std.proofs.Common.{◌≡◌, ◌+◌, drop}
use Rattle.facts_definitions.specs.FlowFacts.{index_of}
use Rattle.flow_facts.proofs.making.index_of.Given as goal

abbrev pub invariant-loop-i : goal.invariant-loop-i
invariant-loop-i l = index_of l.id l.ids ≡ l.i + index_of l.id (drop l.i l.ids)
