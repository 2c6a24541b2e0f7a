use Rattle.std.proofs.Common.{◌<◌, ◌≤◌, All, ap, length, map, subst, sym, ◌∙◌}
use Rattle.std.proofs.lemmas.List.{take_all}
use Rattle.std.proofs.lemmas.Simd.{map-map}
use Rattle.high_pass.specs.Composing.{loops_through}
use Rattle.high_pass.specs.Listing.{loop_entry}
use Rattle.high_pass.proofs.Elements.{All-map_at}
use Rattle.high_pass.proofs.compose.compose_loops.Goals as goal

pub copies_of_loops-requires-clause-there : goal.copies_of_loops-requires-clause-there
copies_of_loops-requires-clause-there c =
    subst (All (λ l. l.id < length c.args.step.now)) (sym c.deref.ensures.value)
    (All-map_at (λ e. All (λ l. l.id < length c.args.step.now) e.new) loop_entry c.args.whole.now c.loop-entry.entry-index c.entry-item.result c.requires.there c.loop-entry-test.true c.entry-item.is)

pub copies_of_loops-requires-clause-small : goal.copies_of_loops-requires-clause-small
copies_of_loops-requires-clause-small c =
    subst (All (λ l. l.factor ≤ 67108863)) (sym c.deref.ensures.value)
    (All-map_at (λ e. All (λ l. l.factor ≤ 67108863) e.new) loop_entry c.args.whole.now c.loop-entry.entry-index c.entry-item.result c.requires.small c.loop-entry-test.true c.entry-item.is)

pub returns : goal.returns
returns c =
    c.loop-entry.invariant
    ∙ ap (map (λ e. loops_through (map loop_entry c.args.step.now) (loop_entry e))) (take_all c.loop-entry.entry-index c.args.whole.now c.loop-entry-test.false)
    ∙ sym (map-map (loops_through (map loop_entry c.args.step.now)) loop_entry c.args.whole.now)
