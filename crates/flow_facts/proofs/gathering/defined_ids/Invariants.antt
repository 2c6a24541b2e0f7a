use Rattle.std.proofs.Common.{◌≡◌, ◌++◌, drop, map}
use Rattle.types_tree.specs.Tree.{function_name}
use Rattle.types_tree.specs.View.{function_of}
use Rattle.flow_facts.proofs.gathering.defined_ids.Given as goal

abbrev pub invariant-loop-function : goal.invariant-loop-function
invariant-loop-function l = l.ids.items ++ map function_name (map function_of (drop l.function-index l.functions)) ≡ map function_name (map function_of l.functions)
