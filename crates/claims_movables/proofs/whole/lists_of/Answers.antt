use Rattle.std.proofs.Common.{ap, ◌∙◌}
use Rattle.claims_places.specs.Places.{sorted}
use Rattle.claims_movables.proofs.RowLemmas.{lists_are}
use Rattle.claims_movables.proofs.whole.lists_of.Goals as goal

pub returns : goal.returns
returns c = λ l is touches.
    c.in_ok-lists.ensures
    ∙ ap (sorted c.args.arrays) c.as_slice.ensures.value
    ∙ lists_are l c.in_ok-accesses.accesses.items c.args.arrays (c.in_ok-accesses.ensures l is touches)
