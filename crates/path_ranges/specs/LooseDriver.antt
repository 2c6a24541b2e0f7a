-- The loose walks of a whole system: its functions in the order of their spans, so that a called function stands before its callers.
use Rattle.std.specs.Prelude.{ℕ, ◌+◌, ℤ, pos, ◌≤ℤ◌, List, [], ◌∷◌, length}
use Rattle.std.proofs.Math.ListN.{replicate}
use Rattle.code_flow_system.specs.declared.moves.Move.{Move}
use Rattle.code_flow_system.specs.declared.shapes.LoopShape.{LoopShape}
use Rattle.code_flow_system.specs.declared.shapes.Span.{Span}
use Rattle.code_flow_system.specs.Systems.{System}
use Rattle.loop_walks.specs.declared.step.Step.{Step}
use Rattle.loop_walks.specs.declared.step.Loop.{Loop}
use Rattle.loop_walks.specs.Walks.{worth_at}
use Rattle.loop_walks.specs.Levels.{Level, level_of}
use Rattle.path_places.specs.Places.{loops_of}
use Rattle.path_places.specs.PlaceLaws.{function_steps}
use Rattle.loop_ranges.specs.LooseWalk.{loose_level}
use Rattle.path_ranges.specs.Loosened.{loosened}

-- so many numbers, and that of the place behind all
abbrev pub no_worths : ℕ → List ℤ
no_worths n = replicate (n + 1) (pos 0)

-- no header has a weight before its function is walked
abbrev pub loose_start : System → List ℤ → Level
loose_start s ws = level_of ws (no_worths (length s.moves))

abbrev pub loose_steps : System → List LoopShape → (Move → ℤ) → List ℤ → Span → List Step
loose_steps s ls price ws p = function_steps (loosened s) ls price ws p

abbrev pub loose_loops_of : System → List LoopShape → (Move → ℤ) → List ℤ → Span → List Loop
loose_loops_of s ls price ws p = loops_of price (pos 0) s.moves (loosened s).claims p (loose_steps s ls price ws p) (loosened s).claims.loops ls

-- a function at the worths of those before it
abbrev pub loose_function : System → List LoopShape → (Move → ℤ) → List ℤ → Span → Level
loose_function s ls price ws p = loose_level (loose_steps s ls price ws p) (loose_start s ws) (loose_loops_of s ls price ws p)

-- no loose worth of the functions is above a bound
abbrev pub AreLooseBelow : System → List LoopShape → (Move → ℤ) → ℤ → List ℤ → List Span → Type 0
AreLooseBelow s ls price bound ws [] = Unit {0}
AreLooseBelow s ls price bound ws (p ∷ ps) = ((a : ℕ) → worth_at (loose_function s ls price ws p).worths a ≤ℤ bound) × AreLooseBelow s ls price bound (loose_function s ls price ws p).worths ps
