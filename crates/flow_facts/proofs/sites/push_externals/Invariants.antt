use Rattle.std.proofs.Common.{◌≡◌, ◌++◌, drop, map}
use Rattle.facts_definitions.specs.Sites.{externals_sites}
use Rattle.types_tree.specs.View.{external_of, program_of}
use Rattle.flow_facts.proofs.sites.push_externals.Given as goal

abbrev pub invariant-loop-external : goal.invariant-loop-external
invariant-loop-external l = l.sites.items ++ externals_sites (program_of l.program) (map external_of (drop l.external-index l.externals)) ≡ l.fn.sites.items ++ externals_sites (program_of l.program) (map external_of l.externals)
