-- The image of a program is laid as its graph says.
use Rattle.std.specs.Prelude.{◌≡◌, length}
use Rattle.rv_core.specs.Images.{Image, AreLoadable}
use Rattle.code_flow_system.specs.Claims.{Claims}
use Rattle.asm_graphs.specs.Laid.{IsImageOf}
use Rattle.low_ir.specs.Places.{Placed}
use Rattle.asm_program.specs.Formed.{IsProgram}
use Rattle.asm_program.specs.Functions.{graph_of}
use Rattle.asm_program.specs.Ranges.{InProgram}
use Rattle.image_frames.specs.Memories.{Placement, memory_of}
use Rattle.image_definition.specs.Images.{placing_in, image_in, exits_in, FitsImage}

abbrev pub ImagesAreLaid : Type 0
ImagesAreLaid = (pl : Placement) (p : Placed) (image : Image) (claims : Claims) → IsProgram p → InProgram p → FitsImage pl p → image ≡ image_in pl p → claims.exits ≡ exits_in pl p
    → IsImageOf (graph_of (memory_of pl p) p) (placing_in pl p) (length p.functions) image claims

abbrev pub ImagesAreLoadable : Type 0
ImagesAreLoadable = (pl : Placement) (p : Placed) → FitsImage pl p → AreLoadable (image_in pl p).segments
