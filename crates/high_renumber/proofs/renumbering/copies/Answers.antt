use Rattle.std.proofs.Common.{ap, map, ◌∙◌}
use Rattle.std.specs.List.{range_with_len}
use Rattle.high_pass.specs.Listing.{loop_entry, mark_entry}
use Rattle.high_renumber.specs.Numbered.{loop_at, mark_at}
use Rattle.high_renumber.proofs.Made.{listed}
use Rattle.high_renumber.proofs.renumbering.copies.Goals as goal

pub returns : goal.returns
returns c =
    let origins = c.args.origins.now in
    listed c.args.marks c.args.loops origins.marks.items origins.loops.items (map mark_entry c.in_ok-marks.marks.items) (map loop_entry c.in_ok-loops.loops.items) c.new.result.items
    (c.in_ok-marks.ensures ∙ ap (λ os. map (mark_at os) (range_with_len 0 c.args.marks)) c.deref.ensures.value)
    (c.in_ok-loops.ensures ∙ ap (λ os. map (loop_at os) (range_with_len 0 c.args.loops)) c.deref-2.ensures.value)
    c.new.ensures.items
