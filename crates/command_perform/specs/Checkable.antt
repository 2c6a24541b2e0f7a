-- That what was compiled can be checked.
use Rattle.std.specs.Prelude.{Option, Some, None, IsSome}
use Rattle.wcc_base.specs.Outside.{StoreState}
use Rattle.wcc_base.specs.declared.status.Status.TheVariants as status
use Rattle.command_words.specs.Requests.{CheckRequest, CompileRequest, MakeRequest}
use Rattle.command_perform.specs.Words.{Asked, Named, Check, Compile, Make}
use Rattle.command_perform.specs.Promises.{CanEnd}

-- the check of what a compilation writes, with the same table
abbrev pub check_of : CompileRequest → CheckRequest
check_of asked = record { image = asked.image; report = asked.report; table = asked.table }

-- and of what `make` writes, with the default costs
abbrev pub check_of_made : MakeRequest → CheckRequest
check_of_made asked = record { image = asked.image; report = asked.report; table = None }

-- where the store tells its files, a check of what was compiled can only find that it holds
abbrev pub IsCheckable : Option Asked → StoreState → StoreState → Type 0
IsCheckable (Some (Named (Compile asked))) old new = IsSome old.files → CanEnd (Some (Named (Check (check_of asked)))) new status.Done
IsCheckable (Some (Named (Make asked))) old new = IsSome old.files → CanEnd (Some (Named (Check (check_of_made asked)))) new status.Done
IsCheckable asked old new = Unit {0}
