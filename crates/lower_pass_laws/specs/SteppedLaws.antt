-- What a low program keeps of a program in the high form with pointers that step.
use Rattle.high_ir.specs.Tree.{Program}
use Rattle.low_ir.specs.Code.{Low}
use Rattle.pass_strength_reduction_law.specs.Steps.{MayBeStepped}
use Rattle.lower_law.specs.Programs.{KeepsProgram}

abbrev pub StepsKeep : Type 0
StepsKeep = (p : Program) (q r : Low) → KeepsProgram p q → MayBeStepped q r → KeepsProgram p r
