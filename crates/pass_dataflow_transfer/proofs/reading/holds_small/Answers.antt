use Rattle.std.proofs.Common.{ap, refl, subst, sym}
use Rattle.low_ir.specs.Code.{Register}
use Rattle.low_ir.specs.View.{operand_of}
use Rattle.pass_dataflow_transfer.specs.Learning.{HoldsSmall}
use Rattle.pass_dataflow_transfer.proofs.Operators.{word_less}
use Rattle.pass_dataflow_transfer.proofs.Teaching.{held_below}
use Rattle.pass_dataflow_transfer.proofs.reading.holds_small.Goals as goal

pub returns-in-Small : goal.returns-in-Small
returns-in-Small c = λ done s known.
    subst (λ x. HoldsSmall x s) (sym (ap operand_of c.in-Register.is)) (held_below (Register c.in-Register.register) s _ c.origin_of.result refl c.in-Small.is (c.origin_of.ensures s known))

pub returns-in-Constant : goal.returns-in-Constant
returns-in-Constant c = λ done s known. subst (λ x. HoldsSmall x s) (sym (ap operand_of c.in-Constant.is)) (word_less s c.in-Constant.field-0)
