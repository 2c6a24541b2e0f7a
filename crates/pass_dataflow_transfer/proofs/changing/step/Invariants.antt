use Rattle.std.proofs.Common.{◌≡◌, length}
use Rattle.pass_dataflow_transfer.specs.Learning.{Steps}
use Rattle.pass_dataflow_transfer.proofs.Tables.{Turned}
use Rattle.pass_dataflow_transfer.proofs.changing.step.Given as goal

abbrev pub invariant-loop-at : goal.invariant-loop-at
invariant-loop-at l = record {
  long : length l.facts.items ≡ length l.initial.facts.items;
  turned : Turned (Steps l.register l.by) l.at l.initial.facts.items l.facts.items;
}
