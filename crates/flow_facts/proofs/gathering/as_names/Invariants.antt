use Rattle.std.proofs.Common.{◌≡◌, ◌++◌, drop, map}
use Rattle.facts_definitions.specs.FlowFacts.{name_id}
use Rattle.flow_facts.proofs.gathering.as_names.Given as goal

abbrev pub invariant-loop-id : goal.invariant-loop-id
invariant-loop-id l = l.names.items ++ map name_id (drop l.id-index l.ids) ≡ map name_id l.ids
