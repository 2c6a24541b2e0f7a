use Rattle.std.proofs.Common.{◌∙◌}
use Rattle.unroller.proofs.Sorting.{never_at, nevers_all}
use Rattle.unroller.proofs.listing.never_marks.Goals as goal

pub loop-each-preserved : goal.loop-each-preserved
loop-each-preserved c =
    never_at c.args.factor c.args.made.now c.loop-each.each-index _ c.loop-each.number c.in_ok-next.next c.loop-each.nevers.items _
    c.loop-each-test.true c.in_ok-next.ensures c.in_ok-put_never.ensures
    ∙ c.loop-each.invariant

pub returns : goal.returns
returns c = nevers_all c.args.factor c.args.made.now c.loop-each.each-index c.loop-each.number c.loop-each.nevers.items c.loop-each-test.false ∙ c.loop-each.invariant
