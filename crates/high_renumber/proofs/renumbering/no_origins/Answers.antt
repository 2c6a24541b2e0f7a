use Rattle.std.proofs.Common.{[], ◌∷◌, ◌++◌, ap, sym, ◌∙◌}
use Rattle.std.specs.List.{range_with_len}
use Rattle.high_renumber.proofs.NumberedLemmas.{range_append}
use Rattle.high_renumber.proofs.renumbering.no_origins.Goals as goal

pub loop-i-preserved : goal.loop-i-preserved
loop-i-preserved c =
    c.in_ok-push.ensures.items
    ∙ ap (λ l. l ++ c.in_ok-offset.field-0 ∷ []) c.loop-i.invariant
    ∙ ap (λ k. range_with_len 0 c.loop-i.i ++ k ∷ []) c.in_ok-offset.ensures
    ∙ sym (range_append 0 c.loop-i.i 1)
