-- What a good run of a program in the high form is in the low form.
use Rattle.std.specs.Prelude.{◌≡◌, ℕ, ◌<◌, ◌^◌, List, All, Option, Some, None}
use Rattle.high_ir.specs.Formed.{IsHigh}
use Rattle.high_ir.specs.Runs.{Run, hrun}
use Rattle.high_ir.specs.Tree.{Program}
use Rattle.high_ir.specs.Whole.{IsWhole}
use Rattle.low_ir.specs.Code.{Low}
use Rattle.low_ir.specs.Effects.{World}
use Rattle.low_ir.specs.Runs.{lrun}
use Rattle.low_ir.specs.Turns.{IsGood, marks_passed}
use Rattle.lower_definition.specs.Programs.{lowered}

-- the low run is good and ends with the value, the output and the marks of the high run
pub record Keeps (q : Low) (input : List ℕ) (r : Run) : Type 0 where
  pub steps : ℕ
  pub world : World
  pub good : IsGood q (lrun q input steps) r.value world
  pub output : world.output ≡ r.output
  pub marks : marks_passed q world.trace ≡ r.trace

abbrev pub IsKept : Low → List ℕ → Option Run → Type 0
IsKept q input None = Unit {0}
IsKept q input (Some r) = Keeps q input r

-- on every input of bytes
abbrev pub RunsAreKept : Type 0
RunsAreKept = (p : Program) → IsHigh p → IsWhole p → (input : List ℕ) → All (λ c. c < 2 ^ 8) input → IsKept (lowered p) input (hrun p input)
