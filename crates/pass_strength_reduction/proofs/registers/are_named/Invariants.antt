use Rattle.std.proofs.Common.{take}
use Rattle.std.specs.Prelude.{All}
use Rattle.pass_strength_reduction_law.specs.Steps.{IsNamed}
use Rattle.pass_strength_reduction.specs.Scenes.{is_spare}
use Rattle.pass_strength_reduction.proofs.registers.are_named.Given as goal

abbrev pub invariant-loop-register : goal.invariant-loop-register
invariant-loop-register l = All (IsNamed (is_spare l.spare)) (take l.register-index l.all)
