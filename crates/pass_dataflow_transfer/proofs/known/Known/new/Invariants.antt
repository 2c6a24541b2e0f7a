use Rattle.std.proofs.Common.{◌≡◌, true}
use Rattle.pass_dataflow_facts.specs.Facts.{all_true}
use Rattle.pass_dataflow_transfer.specs.Learning.{Sure}
use Rattle.pass_dataflow_transfer.proofs.known.Known.new.Given as goal

abbrev pub invariant-loop : goal.invariant-loop
invariant-loop l = Sure l.facts (λ s. all_true l.all.items s ≡ true)
