use Rattle.std.proofs.Common.{◌<◌, All, ap, length, map, subst, sym, ◌∙◌}
use Rattle.std.proofs.lemmas.List.{length-map}
use Rattle.high_pass.specs.Listing.{listing_of, loop_entry, mark_entry}
use Rattle.high_pass.proofs.Continuing.{each_loop, each_mark}
use Rattle.high_pass.proofs.compose.compose.Goals as goal

pub compose_marks-requires : goal.compose_marks-requires
compose_marks-requires c =
    subst (λ es. All (λ e. All (λ k. k < length c.deref-2.result.now) e.new) (map mark_entry es)) (sym c.deref.ensures.value)
    (subst (λ n. All (λ e. All (λ k. k < n) e.new) (listing_of c.args.whole.now).marks) (length-map c.args.step.now.marks.items mark_entry ∙ ap length (sym c.deref-2.ensures.value))
    (each_mark (λ k. k < length (listing_of c.args.step.now).marks) (listing_of c.args.whole.now) c.requires.marks))

pub compose_loops-requires-clause-there : goal.compose_loops-requires-clause-there
compose_loops-requires-clause-there c =
    subst (λ es. All (λ e. All (λ l. l.id < length c.deref-4.result.now) e.new) (map loop_entry es)) (sym c.deref-3.ensures.value)
    (subst (λ n. All (λ e. All (λ l. l.id < n) e.new) (listing_of c.args.whole.now).loops) (sym c.requires.entries ∙ length-map c.args.step.now.loops.items loop_entry ∙ ap length (sym c.deref-4.ensures.value))
    (each_loop (λ k. k < c.args.loops) (listing_of c.args.whole.now) c.requires.loops_there))
