use Rattle.std.proofs.Common.{◌<◌, subst}
use Rattle.std.specs.Prelude.{All}
use Rattle.std.proofs.lemmas.List.{take_all}
use Rattle.std.proofs.lemmas.List.Elements.{All-more}
use Rattle.pass_strength_reduction.proofs.program.are_there.Goals as goal

pub loop-object-preserved : goal.loop-object-preserved
loop-object-preserved c = All-more (λ o. o < c.args.objects) c.args.alone.now c.loop-object.object-index _ c.loop-object-test.true c.loop-object.invariant c.if-object-objects.false

pub returns : goal.returns
returns c = λ done. subst (All (λ o. o < c.args.objects)) (take_all c.loop-object.object-index c.args.alone.now c.loop-object-test.false) c.loop-object.invariant
