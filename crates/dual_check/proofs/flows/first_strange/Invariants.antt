use Rattle.std.proofs.Common.{◌≡◌, take, All, false}
use Rattle.std.specs.Prelude.{not}
use Rattle.code_flow_system.specs.Certificates.{has_move}
use Rattle.dual_check.proofs.flows.first_strange.Given as goal

abbrev pub invariant-loop-i : goal.invariant-loop-i
invariant-loop-i l = All (λ p. not (has_move l.moves p.at p.number) ≡ false) (take l.i l.parts)
