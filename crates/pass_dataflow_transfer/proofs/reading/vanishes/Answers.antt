use Rattle.std.proofs.Common.{sym, ◌∙◌}
use Rattle.pass_dataflow_facts.specs.Facts.{number_in}
use Rattle.pass_dataflow_facts.proofs.Modulo.{same_numbers}
use Rattle.pass_dataflow_transfer.proofs.reading.vanishes.Goals as goal

pub returns-then-is_zero : goal.returns-then-is_zero
returns-then-is_zero c = λ done s known. same_numbers _ _ (sym (c.is_zero.ensures c.if-is_zero.true (number_in s))) ∙ c.loop.invariant s known

pub returns : goal.returns
returns c = λ done s known. same_numbers _ _ (sym (c.is_zero-2.ensures done (number_in s))) ∙ c.loop.invariant s known
