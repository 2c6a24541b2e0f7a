use Rattle.std.proofs.Common.{◌≡◌, take, All, false}
use Rattle.std.specs.Prelude.{not}
use Rattle.code_flow_system.specs.Certificates.{is_given}
use Rattle.dual_check.proofs.missing.first_ungiven.Given as goal

abbrev pub invariant-loop-i : goal.invariant-loop-i
invariant-loop-i l = All (λ m. not (is_given l.potentials m.at) ≡ false) (take l.i l.moves)
