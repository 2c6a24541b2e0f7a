-- What a low program keeps of a program in the high form with copies in place of loads and operations.
use Rattle.high_ir.specs.Tree.{Program}
use Rattle.low_ir.specs.Code.{Low}
use Rattle.pass_common_subexpressions_law.specs.Reloads.{MayBeReloaded}
use Rattle.lower_law.specs.Programs.{KeepsProgram}

abbrev pub ReloadsKeep : Type 0
ReloadsKeep = (p : Program) (q r : Low) → KeepsProgram p q → MayBeReloaded q r → KeepsProgram p r
