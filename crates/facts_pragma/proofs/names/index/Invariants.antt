use Rattle.std.proofs.Common.{◌≡◌, ◌+◌, drop}
use Rattle.facts_definitions.specs.FlowFacts.{id_in}
use Rattle.facts_pragma.proofs.names.index.Given as goal

abbrev pub invariant-loop-i : goal.invariant-loop-i
invariant-loop-i l = id_in l.names l.name ≡ l.i + id_in (drop l.i l.names) l.name
