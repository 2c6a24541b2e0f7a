-- What the evaluator's answer stands for.
use Rattle.std.specs.Prelude.{Option, Some, None}
use Rattle.high_ir.specs.Runs.{Run}
use Rattle.high_eval.specs.declared.evaluation.Evaluated.{Evaluated}

abbrev pub run_seen : Option Evaluated → Option Run
run_seen None = None
run_seen (Some e) = Some (record { value = e.value; output = e.output.items; trace = e.trace.items })
