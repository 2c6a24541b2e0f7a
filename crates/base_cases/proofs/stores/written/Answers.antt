use Rattle.std.proofs.Common.{Option, IfSome, IsSome, sym, subst, codes}
use Rattle.wcc_base.specs.Outside.{Files, file_of}
use Rattle.wcc_base.proofs.FilesLaws.{told_file_is_there}
use Rattle.base_cases.proofs.stores.written.Goals as goal

pub append-requires-clause-there : goal.append-requires-clause-there
append-requires-clause-there g c =
    let IsThere : Option Files → Type 0 = λ o. IfSome o (λ fs. IsSome (file_of fs (codes "written.txt"))) in
    subst IsThere (sym c.in_ok-begin.ensures.ok) (told_file_is_there _ _ _)
