-- Tasks taken one by one: why a step fails, and what stands between two of them.
use Rattle.std.specs.Prelude.{◌≡◌, ℕ, List, ◌++◌, Option, IfSome}
use Rattle.wcc_base.specs.Outside.{Files, StoreState}
use Rattle.wcc_base.specs.declared.limits.Bound.{Bound}
use Rattle.wcc_base.specs.declared.status.Status.{Status}
use Rattle.rv_core.specs.Table.{Table}
use Rattle.response_analysis.specs.declared.task.Task.{Task}
use Rattle.response_time.specs.declared.entry.Entry.{Entry}
use Rattle.command_perform.specs.Gathering.{Overlong}
use Rattle.command_perform.specs.Finishing.{NoneFailed}
use Rattle.command_perform.specs.Responding.{wanted_task, AreTasksOf, RefusesTask, RefusesFirst, OverlongFirst, RefusesListed, OverlongListed}
use Rattle.command_perform.specs.Ends.{FailsBy}

-- why a task isn't taken
abbrev pub FailsTask : Table → Option Files → Entry → Status → Type 0
FailsTask costs files e s = FailsBy (Unit {0}) (λ which. IfSome files (λ fs. Overlong (wanted_task e) fs which)) (RefusesTask costs files e) s

-- why not all are taken
abbrev pub FailsFirst : Table → Option Files → List Entry → Status → Type 0
FailsFirst costs files es s = FailsBy (Unit {0}) (λ which. IfSome files (λ fs. OverlongFirst costs fs es which)) (RefusesFirst costs files es) s

-- why nothing is made of a list
abbrev pub FailsListed : List (List ℕ) → Option Files → Status → Type 0
FailsListed contents files s = FailsBy (Unit {0}) (λ which. IfSome files (λ fs. OverlongListed contents fs which)) (RefusesListed contents files) s

-- the first tasks were taken, and the rest is left
pub record Taking (costs : Table) (es rest : List Entry) (old now : StoreState) (ts : List Task) : Type 0 where
  pub taken : (more : List Task) → AreTasksOf costs old.files rest more → AreTasksOf costs old.files es (ts ++ more)
  pub refuses : (s : Status) → RefusesFirst costs old.files rest s → RefusesFirst costs old.files es s
  pub overlong : (which : Bound) → IfSome old.files (λ fs. OverlongFirst costs fs rest which) → IfSome old.files (λ fs. OverlongFirst costs fs es which)
  pub same : now.files ≡ old.files
  pub counts : NoneFailed old now
