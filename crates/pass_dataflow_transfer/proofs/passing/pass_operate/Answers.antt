use Rattle.std.proofs.Common.{subst}
use Rattle.low_ir.specs.View.{operand_of}
use Rattle.pass_dataflow_transfer.specs.Learning.{StepsBy, Sure}
use Rattle.pass_dataflow_transfer.proofs.Teaching.{operate_steps}
use Rattle.pass_dataflow_transfer.proofs.passing.pass_operate.Goals as goal

pub returns-in-Some : goal.returns-in-Some
returns-in-Some c =
    let it = c.args.it in
    operate_steps c.args.size c.args.known.now.facts.items _ it.operator it.into (operand_of it.left) (operand_of it.right) c.in-Some.by
    (subst (λ fs. Sure fs (StepsBy it.operator it.into (operand_of it.left) (operand_of it.right) c.in-Some.by)) c.deref.ensures.value c.in-Some.ensures) c.step.ensures
