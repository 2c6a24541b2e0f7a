-- What a low program keeps of a program in the high form with scalars in registers.
use Rattle.high_ir.specs.Tree.{Program}
use Rattle.low_ir.specs.Code.{Low}
use Rattle.pass_register_promotion_law.specs.Paying.{MayBePromoted}
use Rattle.lower_law.specs.Programs.{KeepsProgram, SparesRegisters}

-- where it has the spare registers yet
abbrev pub PromotedKeeps : Type 0
PromotedKeeps = (p : Program) (q r : Low) → KeepsProgram p q → SparesRegisters p q → MayBePromoted q r → KeepsProgram p r
