-- What a low program keeps of a program in the high form on shorter ways.
use Rattle.high_ir.specs.Tree.{Program}
use Rattle.low_ir.specs.Code.{Low}
use Rattle.pass_jump_threading_law.specs.Threads.{MayBeThreaded}
use Rattle.lower_law.specs.Programs.{KeepsProgram}

abbrev pub ThreadsKeep : Type 0
ThreadsKeep = (p : Program) (q r : Low) → KeepsProgram p q → MayBeThreaded q r → KeepsProgram p r
