-- What it means that the run of an image is found equal to what a source means.
use Rattle.std.specs.Prelude.{◌≡◌, ℕ, ℤ, List, Option, Some, None}
use Rattle.rv_core.specs.Exits.{Finish, Exits}
use Rattle.rv_core.specs.Images.{Image}
use Rattle.rv_core.specs.Runs.{Setup, setup}
use Rattle.rv_core.specs.Table.{default_table}
use Rattle.meaning_semantics.specs.declared.source_run.SourceRun.{SourceRun}
use Rattle.meaning_semantics.specs.declared.source_run.SourceRun.TheVariants.{Done, Undefined, Broken}
use Rattle.rv_runs.specs.declared.running.ImageRun.{ImageRun}
use Rattle.try_sources.specs.declared.comparing.Ended.{Ended}

-- the same run, if there is one
abbrev pub IsSeen : Option ImageRun → Option Ended → Type 0
IsSeen None None = Unit {0}
IsSeen None (Some run) = ⊥
IsSeen (Some r) None = ⊥
IsSeen (Some r) (Some run) = (run.value ≡ r.value) × ((run.output.items ≡ r.output.items) × (run.trace.items ≡ r.trace.items))

-- the machine exits with this value and this output
pub record ExitsWith (s : Setup) (bytes : List ℕ) (v : ℤ) : Type 0 where
  pub finish : Finish
  pub exits : Exits s finish
  pub value : finish.value ≡ v
  pub output : finish.output ≡ bytes

-- where there is a run, the image exits as it has ended, with the default costs
abbrev pub IsExit : Image → List ℕ → Option Ended → Type 0
IsExit image input None = Unit {0}
IsExit image input (Some run) = ExitsWith (setup image default_table input) run.output.items run.value

-- with the default costs the image exits on the input as the source means
abbrev pub ExitsAs : Image → List ℕ → SourceRun → Type 0
ExitsAs image input (Undefined rule at) = ⊥
ExitsAs image input (Broken what) = ⊥
ExitsAs image input (Done output value counts) = ExitsWith (setup image default_table input) output value
