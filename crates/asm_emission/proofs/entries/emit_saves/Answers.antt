use Rattle.std.proofs.Common.{◌+◌, ◌≤◌, ◌≡◌, true, [], ◌∷◌, ◌++◌, drop, get_or, sym, ap, ◌∙◌, subst}
use Rattle.asm_items.specs.declared.item.Item.TheVariants.{Single}
use Rattle.asm_program.specs.Numbers.{is_near, machine_register, store_word}
use Rattle.asm_program.specs.Frames.{saved_at}
use Rattle.asm_program.specs.Functions.{frame_register, frame_offset, saves}
use Rattle.asm_emission.proofs.Passing.{emitted, drop-next, offset-is}
use Rattle.asm_emission.proofs.Saving.{within, reached, store-is}
use Rattle.asm_emission.proofs.entries.emit_saves.Goals as goal

pub frame_offset-offset-requires-clause-last : goal.frame_offset-offset-requires-clause-last
frame_offset-offset-requires-clause-last c =
    let few = within c.args.frame.now c.saved-registers.ensures.few c.saved-registers.result.now c.saved-registers.ensures.value c.loop-register.register-index c.loop-register-test.true in
    subst (λ a. a ≤ c.args.frame.now.at + 96) (sym c.saved_at.ensures.value) few

pub frame_offset-offset-requires-clause-near : goal.frame_offset-offset-requires-clause-near
frame_offset-offset-requires-clause-near c = λ t.
    let near = reached c.args.frame.now c.saved-registers.ensures.few c.saved-registers.result.now c.saved-registers.ensures.value c.loop-register.register-index c.loop-register-test.true c.args.near c.requires t in
    subst (λ a. is_near a ≡ true) (sym c.saved_at.ensures.value) near

pub loop-register-preserved : goal.loop-register-preserved
loop-register-preserved c =
    let fr = c.args.frame.now in
    let near = c.args.near in
    let xs = c.saved-registers.result.now in
    let k = c.loop-register.register-index in
    let q = get_or xs k 0 in
    let i = store_word (machine_register q) (frame_register near) (frame_offset near fr (saved_at fr q)) in
    let is = store-is near fr q c.machine_register.result c.frame_register.result c.saved_at.result c.frame_offset-offset.result c.machine_register.ensures.value c.frame_register.ensures.value c.frame_offset-offset.ensures.value c.saved_at.ensures.value c.store_word.result
    (c.store_word.ensures ∙ ap (store_word c.machine_register.result c.frame_register.result) (offset-is c.frame_offset-offset.result c.frame_offset-offset.ensures.short)) in
    emitted c.loop-register.code.items c.emit.new.code.items _ (i ∷ []) (saves near fr (drop (k + 1) xs)) (saves near fr (drop k xs))
    (c.in_ok-emit.ensures ∙ ap (λ x. c.loop-register.code.items ++ Single x ∷ []) is)
    (ap (saves near fr) (drop-next xs k 0 c.loop-register-test.true))
    c.loop-register.invariant
