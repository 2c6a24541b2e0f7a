use Rattle.std.proofs.Common.{List, [], ap, map, ◌∙◌}
use Rattle.high_ir.specs.declared.copies.LoopCopy.{LoopCopy}
use Rattle.high_pass.specs.Listing.{LoopEntry, loop_entry}
use Rattle.high_parts.proofs.Making.{one_more}
use Rattle.high_renumber.specs.Numbered.{loop_at}
use Rattle.high_renumber.proofs.grouping.no_loops.Goals as goal

pub loop-old-preserved : goal.loop-old-preserved
loop-old-preserved c =
    let old = c.loop-old.old in
    let whole : List LoopCopy → LoopEntry = λ l. record { old = old; new = l } in
    ap (map loop_entry) c.in_ok-push.ensures.items
    ∙ one_more loop_entry (loop_at []) c.loop-old.copies.items (record { old = old; new = c.new.result }) old c.loop-old.invariant (ap whole c.new.ensures.items)
