use Rattle.pass_dataflow_facts.proofs.Modulo.{product_same}
use Rattle.pass_dataflow_facts.proofs.forms.Term.times.Goals as goal

pub returns : goal.returns
returns c = λ v. product_same c.args.self.factor c.args.factor (v c.args.self.register)
