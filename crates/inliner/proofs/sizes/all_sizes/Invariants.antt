use Rattle.std.proofs.Common.{◌≡◌, map, take}
use Rattle.inliner.specs.Measures.{sizes_of}
use Rattle.inliner.specs.View.{functions_of}
use Rattle.inliner.proofs.sizes.all_sizes.Given as goal

abbrev pub invariant-loop-function : goal.invariant-loop-function
invariant-loop-function l = l.sizes.items ≡ map sizes_of (functions_of (take l.function-index l.functions))
