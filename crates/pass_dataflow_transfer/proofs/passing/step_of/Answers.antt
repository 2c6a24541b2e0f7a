use Rattle.std.proofs.Common.{ap, subst, sym}
use Rattle.std.specs.Prelude.{IfSome}
use Rattle.std.proofs.lemmas.Option.{IfSome_then}
use Rattle.rv_core.specs.declared.row.Alu.TheVariants.{Difference, Sum}
use Rattle.low_ir.specs.Code.{Register}
use Rattle.low_ir.specs.View.{operand_of}
use Rattle.pass_dataflow_transfer.specs.Learning.{StepsBy, Sure}
use Rattle.pass_dataflow_transfer.proofs.Operators.{difference_steps, sum_steps, sum_steps_turned}
use Rattle.pass_dataflow_transfer.proofs.passing.step_of.Goals as goal

pub returns-then-is_register : goal.returns-then-is_register
returns-then-is_register c =
    let d = c.args.into in
    let y = operand_of c.args.right in
    subst (λ op. IfSome c.constant_of.result (λ by. Sure c.args.facts.now (StepsBy op d (operand_of c.args.left) y by))) (sym c.in-Sum.is)
    (IfSome_then c.constant_of.result c.constant_of.ensures (λ by is. λ s known. subst (λ x. StepsBy Sum d x y by s) (sym (c.is_register.ensures c.if-is_register.true)) (sum_steps d by y s (is s known))))

pub returns-then-is_register-2 : goal.returns-then-is_register-2
returns-then-is_register-2 c =
    let d = c.args.into in
    let x = operand_of c.args.left in
    subst (λ op. IfSome c.constant_of-then-is_register-2.result (λ by. Sure c.args.facts.now (StepsBy op d x (operand_of c.args.right) by))) (sym c.in-Sum.is)
    (IfSome_then c.constant_of-then-is_register-2.result c.constant_of-then-is_register-2.ensures (λ by is. λ s known. subst (λ y. StepsBy Sum d x y by s) (sym (c.is_register-else-is_register.ensures c.if-is_register-2.true)) (sum_steps_turned d by x s (is s known))))

pub returns-then-is_register-3 : goal.returns-then-is_register-3
returns-then-is_register-3 c =
    let d = c.args.into in
    let back = c.negated.result in
    subst (λ op. Sure c.args.facts.now (StepsBy op d (operand_of c.args.left) (operand_of c.args.right) back)) (sym c.in-Difference.is)
    (λ s known.
    subst (λ x. StepsBy Difference d x (operand_of c.args.right) back s) (sym (c.is_register-in-Constant.ensures c.if-is_register-3.true))
    (subst (λ y. StepsBy Difference d (Register d) y back s) (sym (ap operand_of c.in-Constant.is)) (difference_steps d c.in-Constant.word back s c.negated.ensures)))
