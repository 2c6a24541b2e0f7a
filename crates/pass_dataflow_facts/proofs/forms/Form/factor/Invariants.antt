use Rattle.std.proofs.Common.{◌+◌, drop}
use Rattle.pass_dataflow_facts.specs.Forms.{Same, factor_in}
use Rattle.pass_dataflow_facts.proofs.forms.Form.factor.Given as goal

abbrev pub invariant-loop-term : goal.invariant-loop-term
invariant-loop-term l = Same (l.factor + factor_in l.register (drop l.term-index l.term-items)) (factor_in l.register l.fn.self.terms)
