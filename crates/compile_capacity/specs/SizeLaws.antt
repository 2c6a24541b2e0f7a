-- The code and the data of each source have room.
use Rattle.high_ir.specs.Tree as high
use Rattle.low_ir.specs.Code.{Low}
use Rattle.low_ir.specs.Places.{Assignment, placed}
use Rattle.lower_law.specs.Programs.{KeepsProgram}
use Rattle.image_definition.specs.Sizes.{HasRoom}
use Rattle.compile_high_definitions.specs.Limits.{HasFewSlots, IsLimited}

-- over whatever places the low program of a program that keeps the limits is
abbrev pub LimitedProgramsFit : Type 0
LimitedProgramsFit = (p : high.Program) (q : Low) (a : Assignment) → IsLimited p → KeepsProgram p q → HasFewSlots a q → HasRoom (placed a q)
