use Rattle.std.specs.List.{AllWithin}
use Rattle.path_loose_fit.specs.Rows.{IsWorth}
use Rattle.path_loose_fit.proofs.row.are_worths.Given as goal

abbrev pub invariant-loop-i : goal.invariant-loop-i
invariant-loop-i l = AllWithin (λ t. IsWorth t.1) l.places 0 l.i
