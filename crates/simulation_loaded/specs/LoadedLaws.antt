-- The image of a program is laid as its layout says.
use Rattle.low_ir.specs.Places.{Placed}
use Rattle.asm_program.specs.Formed.{IsProgram}
use Rattle.asm_program.specs.Ranges.{InProgram}
use Rattle.simulation_relation.specs.Layouts.{IsLaid}
use Rattle.simulation_loaded.specs.MemoryLaws.{KeepsRegisters}
use Rattle.image_frames.specs.Memories.{Placement}
use Rattle.image_definition.specs.Images.{image_in, FitsImage}
use Rattle.simulation_loaded.specs.Layouts.{layout_of}

abbrev pub LayoutsAreLaid : Type 0
LayoutsAreLaid = (pl : Placement) (p : Placed) → IsProgram p → InProgram p → KeepsRegisters p → FitsImage pl p → IsLaid (layout_of pl p) (image_in pl p)
