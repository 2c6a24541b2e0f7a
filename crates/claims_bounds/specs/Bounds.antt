-- The greatest flow of a laid program can be searched for.
use Rattle.std.specs.Prelude.{suc, ◌*◌, ◌^◌, ◌<◌, List, length, All}
use Rattle.rv_core.specs.Images.{Image}
use Rattle.rv_core.specs.Table.{Table}
use Rattle.code_flow_system.specs.declared.shapes.LoopShape.{LoopShape}
use Rattle.code_flow_system.specs.Systems.{System}
use Rattle.asm_graphs.specs.Laid.{spans_from}
use Rattle.low_ir.specs.Places.{Placed}
use Rattle.low_ir.specs.Room.{weight}
use Rattle.low_ir.specs.Turns.{CanTurn}
use Rattle.asm_program.specs.Functions.{PlacedFunction}
use Rattle.claims_definition.specs.Listed.{Laid, claims_of, placing}
use Rattle.claims_bounds.specs.Flows.{HasFlows}
use Rattle.claims_definition.specs.Shapes.{AreShaped}
use Rattle.path_conditions.specs.Bounding.{CanBound}

-- what the form of a program does not say: bounds of loops can be kept, and numbers of a search stay small
pub record IsBounded (p : Placed) : Type 0 where
  pub turns : All (λ (fn : PlacedFunction). All CanTurn fn.loops) p.functions
  pub light : 4000 * weight p < 2 ^ 60

abbrev pub LaidCanBound : Table → Type 0
LaidCanBound t =
    (l : Laid) (image : Image) (s : System) (ls : List LoopShape) → HasFlows l image s → AreShaped (claims_of l).loops ls → IsBounded l.program
    → CanBound t s ls (spans_from (placing l) 0 (suc (length l.program.functions)))
