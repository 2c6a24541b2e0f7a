use Rattle.std.proofs.Common.{◌<◌, subst}
use Rattle.std.specs.Prelude.{All}
use Rattle.std.proofs.lemmas.List.{take_all}
use Rattle.std.proofs.lemmas.List.Elements.{All-more}
use Rattle.pass_strength_reduction.proofs.registers.are_below.Goals as goal

pub loop-register-preserved : goal.loop-register-preserved
loop-register-preserved c = All-more (λ r. r < c.args.registers) c.args.all.now c.loop-register.register-index _ c.loop-register-test.true c.loop-register.invariant c.if-register-registers.false

pub returns : goal.returns
returns c = λ done. subst (All (λ r. r < c.args.registers)) (take_all c.loop-register.register-index c.args.all.now c.loop-register-test.false) c.loop-register.invariant
