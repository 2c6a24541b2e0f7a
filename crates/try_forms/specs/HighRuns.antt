-- A run in the high form, by its value, its output and its marks.
use Rattle.std.specs.Prelude.{◌≡◌, Option, Some, None}
use Rattle.wcc_base.specs.Words.{signed_word}
use Rattle.high_ir.specs.Runs.{Run}
use Rattle.try_sources.specs.declared.comparing.Ended.{Ended}

-- a good run; no other run has an end
abbrev pub IsSeen : Option Run → Option Ended → Type 0
IsSeen None None = Unit {0}
IsSeen None (Some run) = ⊥
IsSeen (Some r) None = ⊥
IsSeen (Some r) (Some run) = (run.value ≡ signed_word r.value) × ((run.output.items ≡ r.output) × (run.trace.items ≡ r.trace))
