use Rattle.std.specs.List.{AllWithin}
use Rattle.path_fit.specs.Loops.{HeadsOwnLoop}
use Rattle.path_fit.proofs.loops.are_apart.Given as goal

abbrev pub invariant-loop-i : goal.invariant-loop-i
invariant-loop-i l = AllWithin (λ k. HeadsOwnLoop l.shapes k.back) l.shapes 0 l.i
