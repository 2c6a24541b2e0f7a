use Rattle.std.proofs.Common.{◌≡◌, length}
use Rattle.pass_dataflow_transfer.specs.Learning.{Survives}
use Rattle.pass_dataflow_transfer.proofs.Tables.{Turned}
use Rattle.pass_dataflow_transfer.proofs.changing.forget.Given as goal

abbrev pub invariant-loop-at : goal.invariant-loop-at
invariant-loop-at l = record {
  long : length l.facts.items ≡ length l.initial.facts.items;
  turned : Turned (Survives l.register) l.at l.initial.facts.items l.facts.items;
}
