-- What a low program keeps of a program in the high form without its copies.
use Rattle.high_ir.specs.Tree.{Program}
use Rattle.low_ir.specs.Code.{Low}
use Rattle.pass_copy_propagation_law.specs.Copies.{MayBeCopied}
use Rattle.lower_law.specs.Programs.{KeepsProgram}

abbrev pub CopiesKeep : Type 0
CopiesKeep = (p : Program) (q r : Low) → KeepsProgram p q → MayBeCopied q r → KeepsProgram p r
