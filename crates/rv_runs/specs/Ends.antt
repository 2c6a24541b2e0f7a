-- What a run of an image came to.
use Rattle.std.specs.Prelude.{◌≡◌, ℕ, List, Option, Some, None}
use Rattle.rv_core.specs.Images.{Image}
use Rattle.rv_core.specs.Table.{Table}
use Rattle.rv_core.specs.Runs.{setup}
use Rattle.rv_core.specs.Exits.{Finish, Exits}
use Rattle.rv_runs.specs.declared.running.ImageRun.{ImageRun}

-- the image exits on the input, with this value and this output
pub record IsExit (image : Image) (costs : Table) (input : List ℕ) (run : ImageRun) : Type 0 where
  pub finish : Finish
  pub exits : Exits (setup image costs input) finish
  pub value : finish.value ≡ run.value
  pub output : finish.output ≡ run.output.items

abbrev pub IsRunOf : Image → Table → List ℕ → Option ImageRun → Type 0
IsRunOf image costs input None = Unit {0}
IsRunOf image costs input (Some run) = IsExit image costs input run
