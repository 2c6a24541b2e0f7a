use Rattle.std.proofs.Common.{All, Some, subst, ◌≡◌}
use Rattle.std.proofs.lemmas.List.{take_all}
use Rattle.std.proofs.lemmas.List.Elements.{All-more}
use Rattle.pass_copy_propagation.specs.Knowing.{stands}
use Rattle.pass_copy_propagation.proofs.beginning.are_own.Goals as goal

pub loop-register-preserved : goal.loop-register-preserved
loop-register-preserved c =
    All-more (λ r. stands c.args.known.now r ≡ Some r) c.args.list.now c.loop-register.register-index 0 c.loop-register-test.true c.loop-register.invariant (c.is_own.ensures c.if-not-is_own.false)

pub returns : goal.returns
returns c = λ done. subst (All (λ r. stands c.args.known.now r ≡ Some r)) (take_all c.loop-register.register-index c.args.list.now c.loop-register-test.false) c.loop-register.invariant
