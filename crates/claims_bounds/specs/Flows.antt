-- The flow system of a program in its chosen forms with its own claims, and what its loose flows keep.
use Rattle.std.specs.Prelude.{ℕ, ◌≤◌, length, All}
use Rattle.rv_core.specs.Images.{Image}
use Rattle.rv_core.specs.Table.{Table}
use Rattle.code_flow_system.specs.Systems.{System, IsSystemOf}
use Rattle.code_flow_system.specs.Counts.{Amounts}
use Rattle.code_flow_system.specs.Loose.{IsLoose}
use Rattle.asm_graphs.specs.Laid.{IsImageOf}
use Rattle.asm_prices.specs.Worths.{AreBounds}
use Rattle.asm_program.specs.Frames.{frame_of}
use Rattle.asm_program.specs.Functions.{PlacedBlock, PlacedFunction, graph_of}
use Rattle.asm_program.specs.Laws.{AreWords}
use Rattle.claims_definition.specs.Listed.{Laid, placing, loops_of, claims_of}
use Rattle.claims_definition.specs.ClaimLaws.{IsSettled}
use Rattle.claims_definition.specs.Flows.{KeepsBounds}
use Rattle.asm_prices.specs.Bounds.{bounds_of}

abbrev pub LoopsAreBounded : Type 0
LoopsAreBounded = (l : Laid) → IsSettled l → AreBounds (graph_of l.memory l.program) (placing l) (bounds_of l.program) (loops_of l)

-- displacements are words, no function saves more registers than hold values, and an image has the code
pub record HasFlows (l : Laid) (image : Image) (s : System) : Type 0 where
  pub settled : IsSettled l
  pub words : All (λ (fn : PlacedFunction). All (λ (b : PlacedBlock). All AreWords b.code) fn.blocks) l.program.functions
  pub saved : (f : ℕ) → length (frame_of l.memory f).saved ≤ 24
  pub laid : IsImageOf (graph_of l.memory l.program) (placing l) (length l.program.functions) image (claims_of l)
  pub system : IsSystemOf image (claims_of l) s

abbrev pub FlowsKeepBounds : Table → Type 0
FlowsKeepBounds t = (l : Laid) (image : Image) (s : System) → HasFlows l image s → (unit : ℕ) (x : Amounts) → IsLoose s unit x → KeepsBounds t l s unit x
