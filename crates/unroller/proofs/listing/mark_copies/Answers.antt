use Rattle.std.proofs.Common.{map, ◌∙◌}
use Rattle.high_pass.specs.Listing.{mark_entry}
use Rattle.unroller.proofs.Sorting.{made_at, sorted_all, sorted_is}
use Rattle.unroller.proofs.listing.mark_copies.Goals as goal

pub loop-each-init : goal.loop-each-init
loop-each-init c = sorted_is c.args.made.now c.args.marks (map mark_entry c.in_ok-copies.copies.items) c.in_ok-copies.ensures

pub loop-each-preserved : goal.loop-each-preserved
loop-each-preserved c =
    made_at c.args.made.now c.loop-each.each-index _ c.loop-each.number c.in_ok-next.next (map mark_entry c.loop-each.copies.items) _
    c.loop-each-test.true c.in_ok-next.ensures c.in_ok-put_made.ensures
    ∙ c.loop-each.invariant

pub returns : goal.returns
returns c = sorted_all c.args.made.now c.loop-each.each-index c.loop-each.number (map mark_entry c.loop-each.copies.items) c.loop-each-test.false ∙ c.loop-each.invariant
