use Rattle.std.proofs.Common.{◌+◌, ◌*◌, drop}
use Rattle.pass_dataflow_facts.specs.Forms.{Numbers, Same, form_value, terms_value}
use Rattle.pass_dataflow_facts.proofs.forms.Form.plus.Given as goal

abbrev pub invariant-loop-term : goal.invariant-loop-term
invariant-loop-term l = (v : Numbers) → Same (form_value v l.all + l.factor * terms_value v (drop l.term-index l.term-items)) (form_value v l.fn.self + l.factor * form_value v l.fn.other)
