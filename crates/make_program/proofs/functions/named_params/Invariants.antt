use Rattle.std.proofs.Common.{◌≡◌, ◌+◌, drop, map}
use Rattle.types_tree.specs.View.{param_of}
use Rattle.plan_definition.specs.Programs.{named_params}
use Rattle.make_program.proofs.functions.named_params.Given as goal

abbrev pub invariant-loop-param : goal.invariant-loop-param
invariant-loop-param l = l.named + named_params (map param_of (drop l.param-index l.params)) ≡ named_params (map param_of l.params)
