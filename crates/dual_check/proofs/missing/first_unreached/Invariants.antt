use Rattle.std.proofs.Common.{◌≡◌, take, All, false}
use Rattle.std.specs.Prelude.{not}
use Rattle.code_flow_system.specs.Systems.{has_moves}
use Rattle.dual_check.proofs.missing.first_unreached.Given as goal

abbrev pub invariant-loop-i : goal.invariant-loop-i
invariant-loop-i l = All (λ t. not (has_moves l.moves t.0) ≡ false) (take l.i l.potentials)
