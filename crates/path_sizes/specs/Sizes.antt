-- Numbers that fit: all through the settling of a system.
use Rattle.std.specs.Prelude.{ℕ, ◌^◌, ℤ, pos, ◌<ℤ◌, List, [], ◌∷◌, length}
use Rattle.code_flow_system.specs.declared.moves.Move.{Move}
use Rattle.code_flow_system.specs.declared.shapes.LoopShape.{LoopShape}
use Rattle.code_flow_system.specs.declared.shapes.Span.{Span}
use Rattle.code_flow_system.specs.Systems.{System}
use Rattle.loop_walks.specs.Levels.{Level}
use Rattle.loop_worths.specs.Sizes.{StaysSmall}
use Rattle.loop_sizes.specs.Laws.{IsSized}
use Rattle.path_places.specs.PlaceLaws.{function_steps}
use Rattle.path_places.specs.Driver.{Prices, blank, function_loops, function_level}
use Rattle.path_ranges.specs.Bounded.{IsBounded}
use Rattle.path_ranges.specs.Ranges.{IsEnough}

abbrev pub AllStaySmall : System → List LoopShape → Prices → Level → List Span → Type 0
AllStaySmall s ls q v [] = Unit {0}
AllStaySmall s ls q v (p ∷ ps) = StaysSmall q.low (function_steps s ls q.of v.worths p) v (function_loops s ls q v.worths p) × AllStaySmall s ls q (function_level s ls q v p) ps

-- and no worth, weight or multiplier is larger than that
abbrev pub AllAreSized : System → List LoopShape → Prices → ℤ → Level → List Span → Type 0
AllAreSized s ls q size v [] = Unit {0}
AllAreSized s ls q size v (p ∷ ps) = IsSized q.low size (function_steps s ls q.of v.worths p) v (function_loops s ls q v.worths p) × AllAreSized s ls q size (function_level s ls q v p) ps

-- at any prices
abbrev pub NumbersFit : System → List LoopShape → List Span → Type 0
NumbersFit s ls ps = (q : Prices) (price : Move → ℤ) (most : ℤ) (starts : ℕ) (size : ℤ) → IsBounded s ls ps q price most starts → IsEnough s q most starts size → size <ℤ pos (2 ^ 124) →
    AllStaySmall s ls q (blank (length s.moves) q.low) ps × AllAreSized s ls q size (blank (length s.moves) q.low) ps
