-- The laid program of an image, and the claims on it.
use Rattle.std.specs.Prelude.{◌≡◌, ℕ, suc, List, length}
use Rattle.rv_core.specs.Images.{Image}
use Rattle.code_flow_system.specs.declared.shapes.LoopShape.{LoopShape}
use Rattle.code_flow_system.specs.Claims.{AreSound}
use Rattle.code_flow_system.specs.Moves.{code_of}
use Rattle.code_flow_system.specs.Reach.{IsCode, IsReached}
use Rattle.code_flow_system.specs.Shapes.{Fits}
use Rattle.code_flow_system.specs.Systems.{IsSystemOf, System}
use Rattle.asm_graphs.specs.Laid.{IsImageOf, spans_from}
use Rattle.low_ir.specs.Places.{Placed}
use Rattle.asm_program.specs.Formed.{IsProgram}
use Rattle.asm_program.specs.Functions.{graph_of}
use Rattle.asm_program.specs.Ranges.{InProgram}
use Rattle.image_frames.specs.Memories.{Placement, memory_of, regions_of}
use Rattle.image_definition.specs.Images.{FitsImage, image_in, rows_in}
use Rattle.claims_definition.specs.AccessLaws.{IsNamed}
use Rattle.claims_definition.specs.ClaimLaws.{IsSettled}
use Rattle.claims_definition.specs.Listed.{Laid, claims_of, placing}
use Rattle.claims_definition.specs.Shapes.{AreShaped}

abbrev pub laid_of : Placement → Placed → Laid
laid_of pl p = record { program = p; memory = memory_of pl p; regions = regions_of pl p; rows = rows_in pl p }

pub record HasClaims (l : Laid) (image : Image) : Type 0 where
  pub settled : IsSettled l
  pub laid : IsImageOf (graph_of l.memory l.program) (placing l) (length l.program.functions) image (claims_of l)
  -- no claim is bad, and each reached address is code
  pub sound : AreSound (claims_of l)
  pub reached : (a : ℕ) → IsReached (code_of image (claims_of l)) image.entry a → IsCode (code_of image (claims_of l)) image.entry a
  -- loops and functions fit the flow system
  pub fits : (s : System) (ss : List LoopShape) → IsSystemOf image (claims_of l) s → AreShaped (claims_of l).loops ss → Fits s ss (spans_from (placing l) 0 (suc (length l.program.functions)))

abbrev pub ImagesHaveClaims : Type 0
ImagesHaveClaims = (pl : Placement) (p : Placed) (image : Image) → IsProgram p → InProgram p → IsNamed p → FitsImage pl p → image ≡ image_in pl p → HasClaims (laid_of pl p) image
