use Rattle.std.proofs.Common.{refl, ap, ◌∙◌}
use Rattle.report_shares.specs.Faults.{lesser, unheld}
use Rattle.report_shares.proofs.FaultLemmas.{least_next, least_end}
use Rattle.report_shares.proofs.faults.least_unheld.Goals as goal

pub loop-part-init : goal.loop-part-init
loop-part-init c = refl

pub loop-part-preserved : goal.loop-part-preserved
loop-part-preserved c =
    least_next (unheld c.args.shares.now) c.args.parts.now c.loop-part.part-index _ c.loop-part.least c.lesser-least.result c.loop-part-test.true (c.lesser-least.ensures ∙ ap (lesser c.loop-part.least) c.unheld.ensures) c.loop-part.invariant

pub returns : goal.returns
returns c = least_end (unheld c.args.shares.now) c.args.parts.now c.loop-part.part-index c.loop-part.least c.loop-part-test.false c.loop-part.invariant
