-- The machine that runs an image has ended after so many steps.
use Rattle.std.proofs.Common.{◌≡◌, ℕ, ◌+◌, ◌<◌, List}
use Rattle.std.specs.Prelude.{All}
use Rattle.rv_core.specs.Table.{Table}
use Rattle.rv_core.specs.Runs.{setup}
use Rattle.rv_steps.specs.Steps.{Later}
use Rattle.low_ir.specs.Effects.{World}
use Rattle.low_ir.specs.Runs.{Done}
use Rattle.low_ir.specs.Places.{Placed, prun}
use Rattle.asm_program.specs.Formed.{IsProgram}
use Rattle.asm_program.specs.Ranges.{InProgram}
use Rattle.simulation_relation.specs.Following.{Ends}
use Rattle.simulation_loaded.specs.MemoryLaws.{KeepsRegisters}
use Rattle.image_frames.specs.Memories.{Placement}
use Rattle.image_definition.specs.Images.{image_in, FitsImage}
use Rattle.simulation_loaded.specs.Layouts.{layout_of}
use Rattle.simulation_law.proofs.Imaged.{image_ends}

from_start : (P : ℕ → Type 0) → Later P 0 → (n : ℕ) × P n
from_start P (k, h) = (0 + k, h)

pub simulated : (pl : Placement) (p : Placed) → IsProgram p → InProgram p → KeepsRegisters p → FitsImage pl p → (table : Table) (input : List ℕ) → All (λ b. b < 256) input → (i v : ℕ) (u : World) → prun p input i ≡ Done v u → (n : ℕ) × Ends (layout_of pl p) (setup (image_in pl p) table input) v u n
simulated pl p formed sound keeps fits table input bytes i v u e = from_start (λ n. Ends (layout_of pl p) (setup (image_in pl p) table input) v u n) (image_ends pl p formed sound keeps fits table input bytes i v u e)
