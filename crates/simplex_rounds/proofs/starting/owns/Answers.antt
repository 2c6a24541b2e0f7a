use Rattle.std.proofs.Common.{◌≡◌, ◌+◌, ◌∷◌, ◌∙◌, arith, ap, drop, refl}
use Rattle.simplex_rounds.specs.Starts.{own_slacks}
use Rattle.simplex_rounds.proofs.NextLemmas.{next_item, owns_next}
use Rattle.simplex_rounds.proofs.starting.owns.Goals as goal

pub loop-i-preserved : goal.loop-i-preserved
loop-i-preserved c =
    let i = c.loop-i.i in
    let n = (c.args.columns + 1) + i in
    let more : own_slacks (n + 1) (drop (i + 1) c.args.sides.now) ≡ own_slacks ((c.args.columns + 1) + (i + 1)) (drop (i + 1) c.args.sides.now) = ap (λ k. own_slacks k (drop (i + 1) c.args.sides.now)) (omega arith) in
    next_item c.loop-i.owns.items _ _ _ _ n n c.in_ok-push.ensures.items refl (owns_next n i c.args.sides.now c.loop-i-test.true ∙ ap (λ rest. n ∷ rest) more) c.loop-i.invariant
