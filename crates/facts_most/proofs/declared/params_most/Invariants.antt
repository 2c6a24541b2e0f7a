use Rattle.std.proofs.Common.{◌≡◌, ◌+◌, drop, map}
use Rattle.facts_definitions.specs.Most.{cut, params_most}
use Rattle.types_tree.specs.View.{param_of}
use Rattle.facts_most.specs.Items.{calls_by}
use Rattle.facts_most.proofs.declared.params_most.Given as goal

abbrev pub invariant-loop-param : goal.invariant-loop-param
invariant-loop-param l = record {
  fits : cut l.most ≡ l.most;
  same : cut (l.most + params_most (calls_by l.calls) (map param_of (drop l.param-index l.params))) ≡ cut (params_most (calls_by l.calls) (map param_of l.params));
}
