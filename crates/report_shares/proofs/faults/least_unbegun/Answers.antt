use Rattle.std.proofs.Common.{refl, ap, ◌∙◌}
use Rattle.report_shares.specs.Faults.{lesser, unbegun}
use Rattle.report_shares.proofs.FaultLemmas.{least_next, least_end}
use Rattle.report_shares.proofs.faults.least_unbegun.Goals as goal

pub loop-step-init : goal.loop-step-init
loop-step-init c = refl

pub loop-step-preserved : goal.loop-step-preserved
loop-step-preserved c =
    least_next (unbegun c.args.shares.now) c.args.moves.now c.loop-step.step-index c.step-item.result c.loop-step.least c.lesser-least.result c.loop-step-test.true (c.lesser-least.ensures ∙ ap (lesser c.loop-step.least) (c.unbegun.ensures ∙ ap (unbegun c.args.shares.now) c.step-item.is)) c.loop-step.invariant

pub returns : goal.returns
returns c = least_end (unbegun c.args.shares.now) c.args.moves.now c.loop-step.step-index c.loop-step.least c.loop-step-test.false c.loop-step.invariant
