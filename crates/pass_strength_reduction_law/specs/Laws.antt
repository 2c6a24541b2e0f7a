-- What a program keeps that reaches elements through pointers that step.
use Rattle.std.specs.Prelude.{◌≡◌, ℕ, List}
use Rattle.low_ir.specs.Code.{Low}
use Rattle.low_ir.specs.Effects.{World}
use Rattle.low_ir.specs.Formed.{IsLow}
use Rattle.low_ir.specs.Room.{reach}
use Rattle.low_ir.specs.Runs.{lrun}
use Rattle.low_ir.specs.Turns.{IsGood}
use Rattle.pass_constant_hoisting.specs.Carried.{Ends}
use Rattle.pass_strength_reduction_law.specs.Steps.{IsStepped}

-- each good run is one of the other program in some steps, with the same value and the same world: arrays, input that is left, output and
-- trace
abbrev pub StepsRun : Type 0
StepsRun = (p q : Low) → IsStepped p q → (input : List ℕ) (n v : ℕ) (u : World) → IsGood p (lrun p input n) v u → Ends q input v u

abbrev pub StepsAreFormed : Type 0
StepsAreFormed = (p q : Low) → IsStepped p q → IsLow p → IsLow q

-- it passes marks as often; what it takes and executes is a part of the relation
abbrev pub StepsPassMarks : Type 0
StepsPassMarks = (p q : Low) → IsStepped p q → (mark : ℕ) → reach q mark ≡ reach p mark
