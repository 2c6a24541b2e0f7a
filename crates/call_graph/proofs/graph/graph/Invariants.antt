use Rattle.std.proofs.Common.{◌≡◌, ◌++◌, drop, map}
use Rattle.call_graph.specs.Items.{kept_calls}
use Rattle.call_graph.proofs.graph.graph.Given as goal

abbrev pub invariant-loop-function : goal.invariant-loop-function
invariant-loop-function l =
    l.graph.items ++ map (kept_calls l.count) (drop l.function-index l.functions) ≡ map (kept_calls l.count) l.functions
