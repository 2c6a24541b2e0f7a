use Rattle.std.proofs.Common.{subst, sym}
use Rattle.pass_copy_propagation.specs.Making.{Begins}
use Rattle.pass_copy_propagation.proofs.Begun.{begins_copied, listed}
use Rattle.pass_copy_propagation.proofs.beginning.count_on.Goals as goal

pub loop-register-init : goal.loop-register-init
loop-register-init c = λ before begins. begins

pub loop-register-preserved : goal.loop-register-preserved
loop-register-preserved c = λ before begins.
    let list = c.args.list.now in
    let done = c.if-not-copy.false in
    subst (λ k. Begins list before k) (sym (c.copy.ensures.known done))
    (begins_copied list before c.loop-register.known _ (c.loop-register.invariant before begins) (listed list c.loop-register.register-index 0 c.loop-register-test.true) (c.copy.ensures.own done))
