-- What frames keep.
use Rattle.std.specs.Prelude.{◌≡◌, ◌≤◌, length}
use Rattle.rv_core.specs.declared.regions.Region.TheVariants.{Ram}
use Rattle.rv_core.specs.Regions.{region_start}
use Rattle.low_ir.specs.Places.{Placed}
use Rattle.asm_program.specs.Ranges.{AreSaving}
use Rattle.image_frames.specs.Frames.{frames_end}
use Rattle.image_frames.specs.Memories.{Placement, memory_of}

-- functions save machine registers, no more of them than there are; and each function has a frame
abbrev pub FramesAreSaving : Type 0
FramesAreSaving = (pl : Placement) (p : Placed) → AreSaving (memory_of pl p)

abbrev pub FramesAreThere : Type 0
FramesAreThere = (pl : Placement) (p : Placed) → length (memory_of pl p).frames ≡ length p.functions

abbrev pub FramesLieInRam : Type 0
FramesLieInRam = (p : Placed) → region_start Ram ≤ frames_end p
