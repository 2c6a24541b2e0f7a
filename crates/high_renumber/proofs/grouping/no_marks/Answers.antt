use Rattle.std.proofs.Common.{List, [], ap, map, ◌∙◌, ℕ}
use Rattle.high_pass.specs.Listing.{MarkEntry, mark_entry}
use Rattle.high_parts.proofs.Making.{one_more}
use Rattle.high_renumber.specs.Numbered.{mark_at}
use Rattle.high_renumber.proofs.grouping.no_marks.Goals as goal

pub loop-old-preserved : goal.loop-old-preserved
loop-old-preserved c =
    let old = c.loop-old.old in
    let whole : List ℕ → MarkEntry = λ l. record { old = old; new = l } in
    ap (map mark_entry) c.in_ok-push.ensures.items
    ∙ one_more mark_entry (mark_at []) c.loop-old.copies.items (record { old = old; new = c.new.result }) old c.loop-old.invariant (ap whole c.new.ensures.items)
