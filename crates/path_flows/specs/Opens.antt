-- Functions whose open sums have open parts, what they call included.
use Rattle.std.specs.Prelude.{◌≡◌, ℤ, ◌≤ℤ◌, List, [], ◌∷◌, true, Contains}
use Rattle.code_flow_system.specs.declared.moves.Move.{Move}
use Rattle.code_flow_system.specs.declared.shapes.LoopShape.{LoopShape}
use Rattle.code_flow_system.specs.declared.shapes.Span.{Span}
use Rattle.code_flow_system.specs.Systems.{System}
use Rattle.loop_walks.specs.declared.step.Step.{Step}
use Rattle.loop_walks.specs.Levels.{Level}
use Rattle.loop_flows.specs.Opens.{IsOpenCode}
use Rattle.path_places.specs.Places.{call_worth, step_of, is_walked}
use Rattle.path_places.specs.PlaceLaws.{function_steps}
use Rattle.path_places.specs.Driver.{Prices, function_loops, function_level}
use Rattle.path_flows.specs.Flows.{function_ground}

-- what each move calls whose step it is, is open
abbrev pub CallsOpenly : ℤ → System → List LoopShape → Prices → List ℤ → Span → Step → Type 0
CallsOpenly least s ls q ws p k = (m : Move) → Contains s.moves m → is_walked s.claims ls p m.at ≡ true → step_of q.of s.moves ws m ≡ k → least ≤ℤ call_worth s.moves ws m.to m.behind

abbrev pub IsOpenFunction : ℤ → System → List LoopShape → Prices → Level → Span → Type 0
IsOpenFunction least s ls q v p = IsOpenCode least (CallsOpenly least s ls q v.worths p) q.low (function_steps s ls q.of v.worths p) v (function_ground s ls q v p) (function_loops s ls q v.worths p)

-- of functions from a level on
abbrev pub AreOpenFunctions : ℤ → System → List LoopShape → Prices → Level → List Span → Type 0
AreOpenFunctions least s ls q v [] = Unit {0}
AreOpenFunctions least s ls q v (p ∷ ps) = IsOpenFunction least s ls q v p × AreOpenFunctions least s ls q (function_level s ls q v p) ps
