use Rattle.std.proofs.Common.{ap, map, ◌∙◌}
use Rattle.std.specs.List.{range_with_len}
use Rattle.high_pass.specs.Listing.{loop_entry, mark_entry}
use Rattle.high_unrolled.specs.Programs.{copies_of, nevers_from}
use Rattle.unroller.proofs.Starting.{from_entries}
use Rattle.unroller.proofs.unroll.copies.Goals as goal

pub returns : goal.returns
returns c =
    let n = c.args.marks in
    from_entries (map mark_entry c.in_ok-marks.marks.items) _ (map loop_entry c.args.walk.entries.items) c.in_ok-nevers.nevers.items _
    (c.in_ok-marks.ensures ∙ ap (λ made. map (copies_of n made) (range_with_len 0 n)) c.deref-2.ensures.value)
    (c.in_ok-nevers.ensures ∙ ap (nevers_from c.args.factor n) c.deref.ensures.value)
