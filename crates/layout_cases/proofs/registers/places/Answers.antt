use Rattle.std.proofs.Common.{◌++◌, [], ◌∷◌, ap, arith, sym, ◌∙◌}
use Rattle.std.proofs.lemmas.List.FromFn.{map-range_with_len_more}
use Rattle.layout_cases.specs.Registers.{place_at}
use Rattle.layout_cases.proofs.registers.places.Goals as goal

pub loop-register-preserved : goal.loop-register-preserved
loop-register-preserved c =
    let i = c.loop-register.register in
    c.in_ok-push.ensures.items
    ∙ ap (λ p. c.loop-register.places.items ++ p ∷ []) c.place_at.ensures
    ∙ ap (λ l. l ++ place_at i ∷ []) c.loop-register.invariant
    ∙ sym (map-range_with_len_more place_at 0 i i (omega arith))
