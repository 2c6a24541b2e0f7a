-- How much a program with pointers that step may take.
use Rattle.std.specs.Prelude.{◌≤◌, ◌*◌}
use Rattle.low_ir.specs.Code.{Low}
use Rattle.low_ir.specs.Room.{room}
use Rattle.pass_strength_reduction_law.specs.Steps.{MayBeStepped}

-- a program as it is, or with pointers that step, and with at most twice as many machine instructions
pub record IsSteppedWithin (p q : Low) : Type 0 where
  pub steps : MayBeStepped p q
  pub room : room q ≤ 2 * room p
