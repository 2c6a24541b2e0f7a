use Rattle.std.proofs.Common.{◌≡◌, drop}
use Rattle.inliner.specs.Sites.{any_fits_in}
use Rattle.inliner.specs.View.{functions_of}
use Rattle.inliner.proofs.settling.any_fits_in.Given as goal

abbrev pub invariant-loop-function : goal.invariant-loop-function
invariant-loop-function l =
    any_fits_in l.scope.limit (functions_of l.scope.functions.now) l.used (functions_of (drop l.function-index l.functions)) ≡ any_fits_in l.scope.limit (functions_of l.scope.functions.now) l.used (functions_of l.functions)
