use Rattle.std.proofs.Common.{[], ◌∷◌, ◌++◌, add-one, ap, append_assoc, sym, ◌∙◌}
use Rattle.std.specs.List.{range_with_len}
use Rattle.low_make.proofs.Registers.{range_more}
use Rattle.low_make.proofs.functions.add_registers.Goals as goal

pub loop-i-preserved : goal.loop-i-preserved
loop-i-preserved c =
    let first = c.args.first in
    let i = c.loop-i.i in
    let before = c.args.registers.now.items in
    c.in_ok-push.ensures.items
    ∙ ap (λ l. l ++ c.in_ok-sum.field-0 ∷ []) c.loop-i.invariant
    ∙ append_assoc before (range_with_len first i) (c.in_ok-sum.field-0 ∷ [])
    ∙ ap (λ l. before ++ l) (ap (λ x. range_with_len first i ++ x ∷ []) c.in_ok-sum.ensures ∙ range_more first i ∙ ap (range_with_len first) (sym (add-one i)))
