use Rattle.std.proofs.Common.{ap, refl, subst, sym}
use Rattle.std.specs.Prelude.{◌%◌, ◌^◌}
use Rattle.low_ir.specs.declared.run.Value.TheVariants.{Word as AWord}
use Rattle.low_ir.specs.Code.{Register}
use Rattle.low_ir.specs.View.{operand_of}
use Rattle.pass_dataflow_facts.specs.declared.facts.Origin.TheVariants.{Object, Small, Word}
use Rattle.pass_strength_reduction.specs.Making.{HoldsValue}
use Rattle.pass_strength_reduction.proofs.Ways.{value_held}
use Rattle.pass_strength_reduction.proofs.inserting.holds_value.Goals as goal

pub returns-in-Word : goal.returns-in-Word
returns-in-Word c = λ done s known.
    subst (λ x. HoldsValue x s) (sym (ap operand_of c.in-Register.is)) (value_held (Register c.in-Register.register) s _ c.origin_of.result Word refl c.in-Word.is refl (c.origin_of.ensures s known))

pub returns-in-Small : goal.returns-in-Small
returns-in-Small c = λ done s known.
    subst (λ x. HoldsValue x s) (sym (ap operand_of c.in-Register.is)) (value_held (Register c.in-Register.register) s _ c.origin_of.result Small refl c.in-Small.is refl (c.origin_of.ensures s known))

pub returns-in-Object : goal.returns-in-Object
returns-in-Object c = λ done s known.
    subst (λ x. HoldsValue x s) (sym (ap operand_of c.in-Register.is)) (value_held (Register c.in-Register.register) s _ c.origin_of.result (Object c.in-Object.field-0) refl c.in-Object.is refl (c.origin_of.ensures s known))

pub returns-in-Constant : goal.returns-in-Constant
returns-in-Constant c = λ done s known. subst (λ x. HoldsValue x s) (sym (ap operand_of c.in-Constant.is)) (record { value = AWord (c.in-Constant.field-0 % 2 ^ 32); is = refl })
