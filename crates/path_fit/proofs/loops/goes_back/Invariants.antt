use Rattle.std.specs.Prelude.{◌≡◌, true}
use Rattle.std.specs.List.{AllWithin}
use Rattle.path_fit.specs.Loops.{goes_alone}
use Rattle.path_fit.proofs.loops.goes_back.Given as goal

abbrev pub invariant-loop-i : goal.invariant-loop-i
invariant-loop-i l = AllWithin (λ m. goes_alone m.to m.behind l.fn.shape.header ≡ true) l.steps 0 l.i
