use Rattle.pass_dataflow_facts.specs.Facts.{number_in}
use Rattle.pass_dataflow_facts.specs.Forms.{Same, form_value}
use Rattle.pass_dataflow_transfer.specs.Learning.{Sure}
use Rattle.pass_dataflow_transfer.proofs.reading.vanishes.Given as goal

abbrev pub invariant-loop : goal.invariant-loop
invariant-loop l = Sure l.facts (λ s. Same (form_value (number_in s) l.now) (form_value (number_in s) l.fn.form))
