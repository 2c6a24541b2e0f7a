use Rattle.std.proofs.Common.{◌≡◌, drop}
use Rattle.pass_dataflow_facts.specs.Forms.{are_of}
use Rattle.pass_dataflow_facts.proofs.forms.Form.has.Given as goal

abbrev pub invariant-loop-term : goal.invariant-loop-term
invariant-loop-term l = are_of l.register (drop l.term-index l.term-items) ≡ are_of l.register l.fn.self.terms
