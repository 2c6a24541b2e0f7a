use Rattle.std.proofs.Common.{◌≡◌, drop}
use Rattle.c_tree.specs.Size.{empty, size_external}
use Rattle.c_tree.specs.View.{external_of}
use Rattle.c_tree.proofs.Sizes.{sizes}
use Rattle.c_tree.proofs.measure.measure_externals.Given as goal

abbrev pub invariant-loop-external : goal.invariant-loop-external
invariant-loop-external l = sizes (λ x. size_external (external_of x)) l.sum (drop l.external-index l.externals) ≡ sizes (λ x. size_external (external_of x)) empty l.externals
