-- The machine that runs the image of a program ends as the program's run over places does.
use Rattle.std.specs.Prelude.{◌≡◌, ℕ, ◌<◌, List, All}
use Rattle.rv_core.specs.Table.{Table}
use Rattle.rv_core.specs.Runs.{setup}
use Rattle.low_ir.specs.Code.{Low}
use Rattle.low_ir.specs.Effects.{World}
use Rattle.low_ir.specs.Formed.{IsLow}
use Rattle.low_ir.specs.Runs.{Done, lrun}
use Rattle.low_ir.specs.Turns.{IsGood}
use Rattle.low_ir.specs.Places.{Placed, Placing, assignment, placed, prun}
use Rattle.low_ir.specs.Spacing.{IsAssignment}
use Rattle.asm_program.specs.Formed.{IsProgram}
use Rattle.asm_program.specs.Ranges.{InProgram}
use Rattle.simulation_relation.specs.Following.{Ends}
use Rattle.simulation_loaded.specs.MemoryLaws.{KeepsRegisters}
use Rattle.image_frames.specs.Memories.{Placement}
use Rattle.image_definition.specs.Images.{image_in, FitsImage}
use Rattle.simulation_loaded.specs.Layouts.{layout_of}

-- whatever latencies its table gives
abbrev pub ImagesSimulate : Type 0
ImagesSimulate =
    (pl : Placement) (p : Placed) → IsProgram p → InProgram p → KeepsRegisters p → FitsImage pl p → (table : Table) (input : List ℕ) → All (λ b. b < 256) input
    → (i v : ℕ) (u : World) → prun p input i ≡ Done v u → (n : ℕ) × Ends (layout_of pl p) (setup (image_in pl p) table input) v u n

-- and as each good run over virtual registers, where their places meet what an assignment has to meet
abbrev pub AssignmentsSimulate : Type 0
AssignmentsSimulate =
    (pl : Placement) (ps : List Placing) (low : Low) → IsLow low → IsAssignment (assignment ps) low → FitsImage pl (placed (assignment ps) low) → (table : Table) (input : List ℕ) → All (λ b. b < 256) input
    → (i v : ℕ) (u : World) → IsGood low (lrun low input i) v u → (n : ℕ) × Ends (layout_of pl (placed (assignment ps) low)) (setup (image_in pl (placed (assignment ps) low)) table input) v u n
