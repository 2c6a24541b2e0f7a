use Rattle.std.proofs.Common.{◌≤◌, All, get_or, subst, sym}
use Rattle.high_pass.specs.Listing.{loop_entry}
use Rattle.high_pass.proofs.Elements.{All-map_at}
use Rattle.high_pass.proofs.compose.copies_of_loops.Goals as goal

pub add_copies-requires-clause-factors : goal.add_copies-requires-clause-factors
add_copies-requires-clause-factors c =
    let i = c.loop-copy.copy-index in
    subst (All (λ l. l.factor ≤ 64)) (sym c.deref.ensures.value)
    (subst (λ e. All (λ l. l.factor ≤ 64) e.new.items) c.index-step-copy.is
    (All-map_at (λ e. All (λ l. l.factor ≤ 64) e.new) loop_entry c.args.step.now (get_or c.args.loops.now i (record { id = 0; factor = 0 })).id c.index-step-copy.result c.requires.factors (c.requires.there i (record { id = 0; factor = 0 }) c.loop-copy-test.true) c.index-step-copy.is))
