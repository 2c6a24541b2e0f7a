use Rattle.std.proofs.Common.{◌≡◌, ◌+◌, drop, map}
use Rattle.facts_definitions.specs.FlowFacts.{index_of}
use Rattle.c_meaning.proofs.restrictions.position.Given as goal

abbrev pub invariant-loop-index : goal.invariant-loop-index
invariant-loop-index l = index_of l.name.0 (map (λ n. n.0) (drop l.index l.names)) + l.index ≡ index_of l.name.0 (map (λ n. n.0) l.names)
