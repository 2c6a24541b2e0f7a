use Rattle.std.proofs.Common.{◌<◌, All, ap, length, map, subst, sym, ◌∙◌}
use Rattle.std.proofs.lemmas.List.{take_all}
use Rattle.std.proofs.lemmas.Simd.{map-map}
use Rattle.high_pass.specs.Composing.{marks_through}
use Rattle.high_pass.specs.Listing.{mark_entry}
use Rattle.high_pass.proofs.Elements.{All-map_at}
use Rattle.high_pass.proofs.compose.compose_marks.Goals as goal

pub copies_of_marks-requires : goal.copies_of_marks-requires
copies_of_marks-requires c =
    subst (All (λ k. k < length c.args.step.now)) (sym c.deref.ensures.value)
    (All-map_at (λ e. All (λ k. k < length c.args.step.now) e.new) mark_entry c.args.whole.now c.loop-entry.entry-index c.entry-item.result c.requires c.loop-entry-test.true c.entry-item.is)

pub returns : goal.returns
returns c =
    c.loop-entry.invariant
    ∙ ap (map (λ e. marks_through (map mark_entry c.args.step.now) (mark_entry e))) (take_all c.loop-entry.entry-index c.args.whole.now c.loop-entry-test.false)
    ∙ sym (map-map (marks_through (map mark_entry c.args.step.now)) mark_entry c.args.whole.now)
