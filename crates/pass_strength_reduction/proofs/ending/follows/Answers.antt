use Rattle.std.proofs.Common.{sym, ◌∙◌}
use Rattle.pass_dataflow_facts.specs.Facts.{number_in}
use Rattle.pass_dataflow_facts.proofs.Modulo.{same_numbers}
use Rattle.pass_dataflow_transfer.proofs.Facts.{true_by}
use Rattle.pass_strength_reduction.proofs.ending.follows.Goals as goal

pub returns-then-covers : goal.returns-then-covers
returns-then-covers c = λ done s known. true_by s c.args.fact (c.covers.ensures c.if-covers.true _ (c.origin_of.ensures s known)) (same_numbers _ _ (sym (c.register.ensures (number_in s))) ∙ c.agree.ensures done s known)
