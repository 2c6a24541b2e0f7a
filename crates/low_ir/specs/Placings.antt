-- The assignment that a value of the code stands for.
use Rattle.std.specs.Prelude.{List, map}
use Rattle.low_ir.specs.declared.places.LowReg.{LowReg}
use Rattle.low_ir.specs.Places.{Assignment, Placing, Placed, placing_of, assignment, placed}
use Rattle.low_ir.specs.Programs.{low_of}

abbrev pub placings_of : LowReg → List Placing
placings_of code = map placing_of code.placings.items

abbrev pub assignment_of : LowReg → Assignment
assignment_of code = assignment (placings_of code)

-- the program over its places
abbrev pub placed_of : LowReg → Placed
placed_of code = placed (assignment_of code) (low_of code.low)
