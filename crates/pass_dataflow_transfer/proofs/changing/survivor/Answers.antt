use Rattle.std.proofs.Common.{sym, ◌∙◌}
use Rattle.pass_dataflow_transfer.proofs.Facts.{survives_other}
use Rattle.pass_dataflow_transfer.proofs.changing.survivor.Goals as goal

pub returns-then-not-has : goal.returns-then-not-has
returns-then-not-has c = λ s v known. survives_other s c.args.register v c.args.fact c.if-fact-register.false (sym c.has.ensures ∙ c.if-not-has.true) known
