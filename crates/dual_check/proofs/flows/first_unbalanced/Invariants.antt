use Rattle.std.proofs.Common.{◌≡◌, take, All, false}
use Rattle.std.specs.Prelude.{not}
use Rattle.dual_check.specs.Tests.{is_balanced_at}
use Rattle.dual_check.proofs.flows.first_unbalanced.Given as goal

abbrev pub invariant-loop-i : goal.invariant-loop-i
invariant-loop-i l = All (λ m. not (is_balanced_at l.system l.cert m.at) ≡ false) (take l.i l.moves)
