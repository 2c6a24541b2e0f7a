use Rattle.std.proofs.Common.{subst, sym, ◌∙◌}
use Rattle.std.specs.Prelude.{All}
use Rattle.std.proofs.lemmas.List.{take_all}
use Rattle.std.proofs.lemmas.List.Elements.{All-more}
use Rattle.pass_strength_reduction_law.specs.Steps.{IsNamed}
use Rattle.pass_strength_reduction.specs.Scenes.{is_spare}
use Rattle.pass_strength_reduction.proofs.registers.are_named.Goals as goal

pub loop-register-preserved : goal.loop-register-preserved
loop-register-preserved c = All-more (IsNamed (is_spare c.args.spare.now)) c.args.all.now c.loop-register.register-index _ c.loop-register-test.true c.loop-register.invariant (sym c.is_spare.ensures ∙ c.if-is_spare.false)

pub returns : goal.returns
returns c = λ done. subst (All (IsNamed (is_spare c.args.spare.now))) (take_all c.loop-register.register-index c.args.all.now c.loop-register-test.false) c.loop-register.invariant
