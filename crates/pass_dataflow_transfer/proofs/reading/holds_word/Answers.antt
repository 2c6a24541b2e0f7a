use Rattle.std.proofs.Common.{ap, refl, subst, sym}
use Rattle.low_ir.specs.Code.{Register}
use Rattle.low_ir.specs.View.{operand_of}
use Rattle.pass_dataflow_transfer.specs.Learning.{HoldsWord}
use Rattle.pass_dataflow_transfer.proofs.Teaching.{small_held, word_held}
use Rattle.pass_dataflow_transfer.proofs.reading.holds_word.Goals as goal

pub returns-in-Word : goal.returns-in-Word
returns-in-Word c = λ done s known.
    subst (λ x. HoldsWord x s) (sym (ap operand_of c.in-Register.is)) (word_held (Register c.in-Register.register) s _ c.origin_of.result refl c.in-Word.is (c.origin_of.ensures s known))

pub returns-in-Small : goal.returns-in-Small
returns-in-Small c = λ done s known.
    subst (λ x. HoldsWord x s) (sym (ap operand_of c.in-Register.is)) (small_held (Register c.in-Register.register) s _ c.origin_of.result refl c.in-Small.is (c.origin_of.ensures s known))
