use Rattle.std.proofs.Common.{◌≡◌, ◌++◌, drop, map}
use Rattle.types_calls.specs.Calls.{params_calls}
use Rattle.types_tree.specs.View.{param_of}
use Rattle.call_graph.proofs.calls.add_params.Given as goal

abbrev pub invariant-loop-param : goal.invariant-loop-param
invariant-loop-param l = l.calls.items ++ params_calls (map param_of (drop l.param-index l.params)) ≡ l.fn.calls.items ++ params_calls (map param_of l.params)
