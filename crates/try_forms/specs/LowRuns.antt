-- A run in the low form, by the marks that it passed.
use Rattle.std.specs.Prelude.{◌≡◌, Option, Some, None}
use Rattle.wcc_base.specs.Words.{signed_word}
use Rattle.low_eval.specs.Evaluated.{Seen, StillGoes, HasEnded, IsBad}
use Rattle.low_ir.specs.Code.{Low}
use Rattle.low_ir.specs.Turns.{marks_passed}
use Rattle.try_sources.specs.declared.comparing.Ended.{Ended}

-- the value, the output and the marks of a run that has ended; a run that goes on still, or is no good run, has none
abbrev pub IsSeen : Low → Seen → Option Ended → Type 0
IsSeen p StillGoes None = Unit {0}
IsSeen p StillGoes (Some run) = ⊥
IsSeen p IsBad None = Unit {0}
IsSeen p IsBad (Some run) = ⊥
IsSeen p (HasEnded e) None = ⊥
IsSeen p (HasEnded e) (Some run) = (run.value ≡ signed_word e.value) × ((run.output.items ≡ e.output) × (run.trace.items ≡ marks_passed p e.trace))
