use Rattle.std.proofs.Common.{arith, inl, refl}
use Rattle.pass_strength_reduction.proofs.program.unchanged.Goals as goal

pub returns : goal.returns
returns c = record { steps = inl refl; room = omega arith }
