-- What the placed programs of the code keep to.
use Rattle.low_ir.specs.Formed.{IsLow}
use Rattle.low_ir.specs.Code.{Low}
use Rattle.low_ir.specs.Places.{Assignment, placed}
use Rattle.low_ir.specs.Spacing.{IsAssignment}
use Rattle.asm_program.specs.Ranges.{InProgram}

-- the places of a program's registers are among the registers that hold values
abbrev pub PlacesAreThere : Type 0
PlacesAreThere = (a : Assignment) (low : Low) → IsLow low → IsAssignment a low → InProgram (placed a low)
