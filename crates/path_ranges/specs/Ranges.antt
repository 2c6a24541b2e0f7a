-- The ranges of all worths, and loose numbers of each function when it is settled.
use Rattle.std.specs.Prelude.{◌≡◌, ℕ, ℤ, pos, true, ◌+ℤ◌, ◌-ℤ◌, ◌≤ℤ◌, List, [], ◌∷◌, length}
use Rattle.code_flow_system.specs.declared.moves.Move.{Move}
use Rattle.code_flow_system.specs.declared.shapes.LoopShape.{LoopShape}
use Rattle.code_flow_system.specs.declared.shapes.Span.{Span}
use Rattle.code_flow_system.specs.Systems.{System, has_moves}
use Rattle.code_flow_system.specs.Shapes.{IsInSpan}
use Rattle.loop_walks.specs.Walks.{worth_at}
use Rattle.loop_walks.specs.Levels.{Level, ground}
use Rattle.loop_walks.specs.Rows.{Each}
use Rattle.loop_ranges.specs.Near.{IsNear}
use Rattle.loop_ranges.specs.Loose.{Loose, Turn}
use Rattle.loop_ranges.specs.Reach.{BacksAbove, IsLooseCode, reach}
use Rattle.path_places.specs.Places.{place_of}
use Rattle.path_places.specs.PlaceLaws.{function_steps}
use Rattle.path_places.specs.Driver.{Prices, blank, function_loops, function_level, functions_level}
use Rattle.path_ranges.specs.Bounded.{IsBounded}

-- a function that is next to be settled: its code has loose numbers, none of which is negative or above most, no price is less than a block and that, and as long as no loop is settled the worths of its places are near them
pub record IsLooseFunction (s : System) (ls : List LoopShape) (q : Prices) (most : ℤ) (starts : ℕ) (v : Level) (p : Span) : Type 0 where
  pub loose : Loose
  pub turns : List Turn
  pub code : IsLooseCode q.low most starts (length s.moves) loose (function_steps s ls q.of v.worths p) v (function_loops s ls q v.worths p) turns
  pub worths : (a : ℕ) → (pos 0 ≤ℤ loose.worth a) × (loose.worth a ≤ℤ most)
  pub steps : Each (λ m. (q.low -ℤ most) ≤ℤ m.price) (function_steps s ls q.of v.worths p)
  pub backs : BacksAbove q.low (function_loops s ls q v.worths p)
  pub near : (x : ℕ) → has_moves s.moves x ≡ true → IsInSpan p x → IsNear q.low (worth_at (ground q.low (function_steps s ls q.of v.worths p) v (function_loops s ls q v.worths p)).worths (place_of s.moves x)) (loose.worth (place_of s.moves x))

abbrev pub FunctionsAreLoose : System → List LoopShape → Prices → ℤ → ℕ → Level → List Span → Type 0
FunctionsAreLoose s ls q most starts v [] = Unit {0}
FunctionsAreLoose s ls q most starts v (p ∷ ps) = IsLooseFunction s ls q most starts v p × FunctionsAreLoose s ls q most starts (function_level s ls q v p) ps

-- what a loop adds at most
abbrev pub loop_step : Prices → ℤ → ℕ → ℤ
loop_step q most starts = ((most +ℤ most) -ℤ q.low) +ℤ pos starts

abbrev pub IsLevelWithin : System → Prices → ℤ → ℕ → Level → Type 0
IsLevelWithin s q most starts v = (a : ℕ) → (q.low ≤ℤ worth_at v.worths a) × (worth_at v.worths a ≤ℤ reach (loop_step q most starts) most (length s.claims.loops))

-- enough for all loops: what their worths reach, and twice a block, the greatest loose number and the most starts beside
abbrev pub IsEnough : System → Prices → ℤ → ℕ → ℤ → Type 0
IsEnough s q most starts size = (reach (loop_step q most starts) most (length s.claims.loops) +ℤ ((most -ℤ (q.low +ℤ q.low)) +ℤ pos starts)) ≤ℤ size

-- at any prices
abbrev pub WalksAreBounded : System → List LoopShape → List Span → Type 0
WalksAreBounded s ls ps = (q : Prices) (price : Move → ℤ) (most : ℤ) (starts : ℕ) → IsBounded s ls ps q price most starts → FunctionsAreLoose s ls q most starts (blank (length s.moves) q.low) ps

-- no worth is below a block, nor above the greatest loose one and what all loops add
abbrev pub WorthsAreBounded : System → List LoopShape → List Span → Type 0
WorthsAreBounded s ls ps = (q : Prices) (price : Move → ℤ) (most : ℤ) (starts : ℕ) → IsBounded s ls ps q price most starts → IsLevelWithin s q most starts (functions_level s ls q (blank (length s.moves) q.low) ps)
