-- The machine that runs the image of a program ends as a run of the program does.
use Rattle.std.proofs.Common.{◌≡◌, ℕ, ◌<◌, List, refl}
use Rattle.std.specs.Prelude.{All}
use Rattle.rv_core.specs.Table.{Table}
use Rattle.rv_steps.specs.Steps.{Later}
use Rattle.low_ir.specs.Effects.{World}
use Rattle.low_ir.specs.Runs.{Done, first, run}
use Rattle.low_ir.specs.Places.{Placed, places}
use Rattle.asm_program.specs.Formed.{IsProgram}
use Rattle.asm_program.specs.Ranges.{InProgram}
use Rattle.simulation_relation.specs.Views.{view_of}
use Rattle.simulation_loaded.specs.MemoryLaws.{KeepsRegisters}
use Rattle.image_frames.specs.Memories.{Placement}
use Rattle.image_definition.specs.Images.{image_in, FitsImage}
use Rattle.image_definition.proofs.LaidLemmas.{image_loadable}
use Rattle.simulation_loaded.specs.Layouts.{layout_of}
use Rattle.simulation_loaded.proofs.LaidLemmas.{is_laid}
use Rattle.simulation_steps.proofs.Given.{Given, state}
use Rattle.simulation_steps.proofs.Plains.{Runs}
use Rattle.simulation_law.proofs.FirstArrays.{first_arrays}
use Rattle.simulation_law.proofs.Starting.{ends_alike}

module _ (pl : Placement) (p : Placed) (formed : IsProgram p) (sound : InProgram p) (keeps : KeepsRegisters p) (fits : FitsImage pl p) (table : Table) (input : List ℕ) where
  abbrev pub given : Given
  given = record { layout = layout_of pl p; image = image_in pl p; table = table; input = input; loadable = image_loadable pl p fits; laid = is_laid pl p formed sound keeps fits }

  pub image_ends : All (λ b. b < 256) input → (i v : ℕ) (u : World) → run places p i (first places p input) ≡ Done v u → Later (Runs given (Done v u)) 0
  image_ends bytes i v u e = ends_alike given (first_arrays pl p fits (view_of (state given 0)) (λ w a. refl)) bytes i v u e
