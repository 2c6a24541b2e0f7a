use Rattle.std.proofs.Common.{◌≡◌, All, Some, take}
use Rattle.pass_copy_propagation.specs.Knowing.{stands}
use Rattle.pass_copy_propagation.proofs.beginning.are_own.Given as goal

abbrev pub invariant-loop-register : goal.invariant-loop-register
invariant-loop-register l = All (λ r. stands l.known r ≡ Some r) (take l.register-index l.list)
