use Rattle.std.proofs.Common.{◌++◌, [], ◌∷◌, ap, arith, sym, ◌∙◌}
use Rattle.std.proofs.lemmas.List.FromFn.{map-range_with_len_more}
use Rattle.low_ir.specs.declared.places.Place.TheVariants.{Slot}
use Rattle.low_ir.proofs.slots.slots_of.Goals as goal

pub loop-register-preserved : goal.loop-register-preserved
loop-register-preserved c =
    let i = c.loop-register.register in
    c.in_ok-push.ensures.items
    ∙ ap (λ l. l ++ Slot i ∷ []) c.loop-register.invariant
    ∙ sym (map-range_with_len_more Slot 0 i i (omega arith))
