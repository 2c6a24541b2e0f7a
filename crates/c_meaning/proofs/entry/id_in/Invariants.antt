use Rattle.std.proofs.Common.{◌≡◌, ◌+◌, drop}
use Rattle.facts_definitions.specs.FlowFacts.{id_in}
use Rattle.c_meaning.proofs.entry.id_in.Given as goal

abbrev pub invariant-loop-index : goal.invariant-loop-index
invariant-loop-index l = id_in (drop l.index l.names) l.name + l.index ≡ id_in l.names l.name
