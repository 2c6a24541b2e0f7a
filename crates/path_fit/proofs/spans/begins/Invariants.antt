use Rattle.std.specs.Prelude.{◌≢◌}
use Rattle.std.specs.List.{AllWithin}
use Rattle.path_fit.proofs.spans.begins.Given as goal

abbrev pub invariant-loop-i : goal.invariant-loop-i
invariant-loop-i l = AllWithin (λ p. p.first ≢ l.fn.at) l.spans 0 l.i
