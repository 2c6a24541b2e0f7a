-- What the evaluator's answer says of a run over places.
use Rattle.std.specs.Prelude.{ℕ, List}
use Rattle.low_eval.specs.Evaluated.{Seen, StillGoes, HasEnded, IsBad}
use Rattle.low_ir.specs.declared.places.Place.{Place}
use Rattle.low_ir.specs.Places.{File}
use Rattle.low_ir.specs.Runs.{Run, Going, Done, Bad}

abbrev pub seen_run : Run Place (List ℕ) File → Seen
seen_run (Going r) = StillGoes
seen_run (Done v u) = HasEnded (record { value = v; output = u.output; trace = u.trace })
seen_run Bad = IsBad
