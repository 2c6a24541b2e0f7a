use Rattle.std.proofs.Common.{◌≡◌, ◌+◌, drop, map}
use Rattle.facts_definitions.specs.FlowFacts.{index_of}
use Rattle.types_tree.specs.Tree.{function_name}
use Rattle.types_tree.specs.View.{function_of}
use Rattle.c_meaning.proofs.entry.index_of.Given as goal

abbrev pub invariant-loop-index : goal.invariant-loop-index
invariant-loop-index l = index_of l.id (map function_name (map function_of (drop l.index l.functions))) + l.index ≡ index_of l.id (map function_name (map function_of l.functions))
