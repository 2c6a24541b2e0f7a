use Rattle.std.proofs.Common.{rules, ◌∙◌}
use Rattle.std.specs.Int.{w128}
use Rattle.std.proofs.lemmas.Int.{to_z-of_z}
use Rattle.simplex_rounds.proofs.NextLemmas.{next_item, slacks_next}
use Rattle.simplex_rounds.proofs.starting.push_slacks.Goals as goal

pub loop-k-preserved : goal.loop-k-preserved
loop-k-preserved c =
    let k = c.loop-k.k in
    let item = to_z-of_z w128 c.one_at.result (search rules) ∙ c.one_at.ensures in
    next_item c.loop-k.row.items _ _ _ _ _ _ c.in_ok-push.ensures.items item (slacks_next c.args.own k k c.args.sides.now c.loop-k-test.true) c.loop-k.invariant
