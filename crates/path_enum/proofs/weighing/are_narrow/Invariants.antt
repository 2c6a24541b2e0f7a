use Rattle.std.proofs.Common.{◌≡◌, true}
use Rattle.std.specs.List.{AllWithin}
use Rattle.simplex_rounds.specs.declared.weighing.Weight.{Weight}
use Rattle.simplex_rounds.specs.Limits.{is_narrow}
use Rattle.simplex_rounds.specs.Weighted.{numerator}
use Rattle.path_enum.proofs.weighing.are_narrow.Given as goal

abbrev pub invariant-loop-i : goal.invariant-loop-i
invariant-loop-i l = AllWithin (λ (w : Weight). is_narrow l.times (numerator l.all w) ≡ true) l.weights 0 l.i
