-- How `make` ends.
use Rattle.std.specs.Prelude.{Option, Some}
use Rattle.wcc_base.specs.declared.status.Status.{Status}
use Rattle.wcc_base.specs.declared.status.Status.TheVariants as status
use Rattle.command_perform.specs.Words.{Asked, Named, Make}

-- it is done, or writing failed, or memory ran out
abbrev pub IsMadeOr : Status → Type 0
IsMadeOr status.Done = Unit {0}
IsMadeOr status.WriteFault = Unit {0}
IsMadeOr status.Memory = Unit {0}
IsMadeOr s = ⊥

abbrev pub MakeEnds : Option Asked → Status → Type 0
MakeEnds (Some (Named (Make asked))) s = IsMadeOr s
MakeEnds asked s = Unit {0}
