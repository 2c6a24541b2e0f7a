use Rattle.std.proofs.Common.{◌≡◌, drop}
use Rattle.pass_dataflow_facts.specs.Forms.{Numbers, terms_value}
use Rattle.pass_dataflow_facts.proofs.forms.Form.is_constant.Given as goal

abbrev pub invariant-loop-term : goal.invariant-loop-term
invariant-loop-term l = (v : Numbers) → terms_value v (drop l.term-index l.term-items) ≡ terms_value v l.fn.self.terms
