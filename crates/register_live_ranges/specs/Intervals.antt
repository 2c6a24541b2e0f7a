-- The interval of each register.
use Rattle.std.specs.Prelude.{◌≡◌, ℕ, ◌<◌, ◌≤◌, min, max, List, [], ◌∷◌, length, Option, Some, None, slice_get, slice_index_or, slice_set}
use Rattle.low_ir.specs.Code.{Block, Function, Low, Note}
use Rattle.low_ir.specs.Live.{IsPlace}
use Rattle.register_live_ranges.specs.declared.interval.Interval.{Interval}

-- from the least to the greatest of these numbers
pub record Spans (P : ℕ → Type 0) (i : Interval) : Type 0 where
  pub begins : P i.first
  pub ends : P i.last
  pub above : (p : ℕ) → P p → i.first ≤ p
  pub below : (p : ℕ) → P p → p ≤ i.last

-- there is none where there is no such number
abbrev pub IsHull : (ℕ → Type 0) → Option Interval → Type 0
IsHull P None = (p : ℕ) → P p → ⊥
IsHull P (Some i) = Spans P i

-- the interval of a register goes from its least to its greatest place
abbrev pub IsIntervalOf : Function ℕ Note → ℕ → Option Interval → Type 0
IsIntervalOf fn v o = IsHull (λ p. IsPlace fn p v) o

abbrev pub interval_in : List (Option Interval) → ℕ → Option Interval
interval_in row v = slice_index_or row v None

-- those of a function, by register
pub record AreIntervalsOf (fn : Function ℕ Note) (row : List (Option Interval)) : Type 0 where
  pub size : length row ≡ fn.size
  pub each : (v : ℕ) → v < fn.size → IsIntervalOf fn v (interval_in row v)

-- and those of a program, by function
abbrev pub AreIntervals : Low → List (List (Option Interval)) → Type 0
AreIntervals p rows = (f : ℕ) (fn : Function ℕ Note) → slice_get p.functions f ≡ Some fn → AreIntervalsOf fn (slice_index_or rows f [])

-- with one place more
abbrev pub widened : Option Interval → ℕ → Interval
widened None p = record { first = p; last = p }
widened (Some i) p = record { first = min i.first p; last = max i.last p }

-- the parameters are written at the first place
abbrev pub parameters_widened : List (Option Interval) → List ℕ → List (Option Interval)
parameters_widened row [] = row
parameters_widened row (r ∷ rs) = parameters_widened (slice_set row r (Some (widened (interval_in row r) 0))) rs

-- a register is live at a place of these blocks, or written there, but for parameters
abbrev pub LivesAt : List (Block ℕ Note) → ℕ → ℕ → Type 0
LivesAt bs p v = IsPlace (record { parameters = []; size = 0; loops = []; blocks = bs }) p v
