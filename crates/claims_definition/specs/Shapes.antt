-- The shapes of loop claims, and that the flow system of laid code fits them.
use Rattle.std.specs.Prelude.{◌≡◌, ℕ, suc, List, [], ◌∷◌, length}
use Rattle.rv_core.specs.Images.{Image}
use Rattle.code_flow_system.specs.declared.claims.LoopClaim.{LoopClaim}
use Rattle.code_flow_system.specs.declared.shapes.LoopShape.{LoopShape}
use Rattle.code_flow_system.specs.Shapes.{Fits}
use Rattle.code_flow_system.specs.Systems.{System, IsSystemOf}
use Rattle.asm_graphs.specs.Laid.{IsImageOf, spans_from}
use Rattle.asm_program.specs.Functions.{graph_of}
use Rattle.claims_definition.specs.ClaimLaws.{IsSettled}
use Rattle.claims_definition.specs.Listed.{Laid, claims_of, placing}

-- a loop lies from its header to its jump back
pub record IsShape (c : LoopClaim) (s : LoopShape) : Type 0 where
  pub header : s.header ≡ c.header
  pub back : s.back ≡ c.back
  pub first : s.first ≡ c.header
  pub last : s.last ≡ c.back

abbrev pub AreShaped : List LoopClaim → List LoopShape → Type 0
AreShaped [] [] = Unit {0}
AreShaped [] (s ∷ ss) = ⊥
AreShaped (c ∷ cs) [] = ⊥
AreShaped (c ∷ cs) (s ∷ ss) = IsShape c s × AreShaped cs ss

-- the loops and functions of an image that holds a laid program fit its flow system under these claims
abbrev pub ClaimsFit : Type 0
ClaimsFit =
    (l : Laid) (main : ℕ) (image : Image) (s : System) (ss : List LoopShape) → IsSettled l → IsImageOf (graph_of l.memory l.program) (placing l) main image (claims_of l) → IsSystemOf image (claims_of l) s → AreShaped (claims_of l).loops ss
    → Fits s ss (spans_from (placing l) 0 (suc (length l.program.functions)))
