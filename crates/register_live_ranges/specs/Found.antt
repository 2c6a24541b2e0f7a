-- What a walk goes by.
use Rattle.std.specs.Prelude.{◌≡◌, ℕ, ◌<◌, List, [], Option, length, replicate}
use Rattle.low_ir.specs.Code.{Block, Function, Note}
use Rattle.low_ir.specs.View.{function_of}
use Rattle.register_live_ranges.specs.declared.accesses.Access.{Access}
use Rattle.register_live_ranges.specs.declared.interval.Interval.{Interval}
use Rattle.register_live_ranges.specs.declared.reading.Reading.{Reading}
use Rattle.register_live_ranges.specs.declared.sources.Source.{Source}
use Rattle.register_live_ranges.specs.Accesses.{blocks_noted}
use Rattle.register_live_ranges.specs.Intervals.{IsHull, LivesAt, interval_in}
use Rattle.register_live_ranges.specs.Rows.{rows_of}
use Rattle.register_live_ranges.specs.Sources.{blocks_led}

-- from where the blocks of a function are come to
abbrev pub sources_of : List (Block ℕ Note) → List (List Source)
sources_of bs = blocks_led (replicate (length bs) []) 0 0 bs

-- the reads and writes of each register of a function
abbrev pub accesses_of : Function ℕ Note → List (List Access)
accesses_of fn = blocks_noted (replicate fn.size []) 0 0 fn.blocks

-- what is read of a function is all of it
pub record IsReading (r : Reading) : Type 0 where
  pub accesses : rows_of r.accesses.now ≡ accesses_of (function_of r.function.now)
  pub sources : rows_of r.sources.now ≡ sources_of (function_of r.function.now).blocks

-- the interval of register v, but for its place as a parameter
abbrev pub IsFound : Reading → ℕ → Option Interval → Type 0
IsFound r v o = IsHull (λ p. LivesAt (function_of r.function.now).blocks p v) o

-- those below n
abbrev pub AreFound : Reading → ℕ → List (Option Interval) → Type 0
AreFound r n found = (v : ℕ) → v < n → IsFound r v (interval_in found v)
