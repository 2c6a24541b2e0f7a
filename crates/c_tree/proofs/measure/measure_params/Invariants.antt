use Rattle.std.proofs.Common.{◌≡◌, drop}
use Rattle.c_tree.specs.Size.{empty, size_param}
use Rattle.c_tree.specs.View.{param_of}
use Rattle.c_tree.proofs.Sizes.{sizes}
use Rattle.c_tree.proofs.measure.measure_params.Given as goal

abbrev pub invariant-loop-param : goal.invariant-loop-param
invariant-loop-param l = sizes (λ x. size_param (param_of x)) l.sum (drop l.param-index l.params) ≡ sizes (λ x. size_param (param_of x)) empty l.params
