use Rattle.std.proofs.Common.{◌+◌, drop}
use Rattle.pass_dataflow_facts.specs.Facts.{number_in}
use Rattle.pass_dataflow_facts.specs.Forms.{Same, form_value, terms_value}
use Rattle.pass_dataflow_transfer.specs.Learning.{Sure}
use Rattle.pass_dataflow_transfer.proofs.reading.in_place.Given as goal

abbrev pub invariant-loop-term : goal.invariant-loop-term
invariant-loop-term l = Sure l.facts (λ s. Same (form_value (number_in s) l.all + terms_value (number_in s) (drop l.term-index l.term-items)) (form_value (number_in s) l.fn.form))
