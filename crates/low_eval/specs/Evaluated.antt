-- What the evaluator's answer says of a run.
use Rattle.std.specs.Prelude.{ℕ, List}
use Rattle.low_ir.specs.declared.run.Began.{Began}
use Rattle.low_ir.specs.Code.{Note}
use Rattle.low_ir.specs.Runs.{Run, Going, Done, Bad, Bank}
use Rattle.low_eval.specs.declared.evaluation.Evaluated as evaluateds
use Rattle.low_eval.specs.declared.evaluation.Outcome.{Outcome}
use Rattle.low_eval.specs.declared.evaluation.Outcome.TheVariants as outcomes

-- a run that has ended: its value, its output and the blocks that it passed
pub record Ended : Type 0 where
  pub value : ℕ
  pub output : List ℕ
  pub trace : List Began

pub data Seen : Type 0 where
  StillGoes : Seen
  HasEnded : (ended : Ended) → Seen
  IsBad : Seen

abbrev pub seen_run : Run ℕ Note Bank → Seen
seen_run (Going r) = StillGoes
seen_run (Done v u) = HasEnded (record { value = v; output = u.output; trace = u.trace })
seen_run Bad = IsBad

abbrev pub ended : evaluateds.Evaluated → Ended
ended e = record { value = e.value; output = e.output.items; trace = e.trace.items }

abbrev pub seen : Outcome → Seen
seen outcomes.Going = StillGoes
seen (outcomes.Done e) = HasEnded (ended e)
seen outcomes.Bad = IsBad
