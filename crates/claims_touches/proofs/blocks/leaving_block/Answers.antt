use Rattle.std.proofs.Common.{true, ◌++◌, ap, ◌∙◌}
use Rattle.asm_program.specs.Functions.{leave_items}
use Rattle.asm_code.specs.Scopes.{memory, program}
use Rattle.claims_touches.specs.Named.{item_names}
use Rattle.claims_touches.specs.Bodies.{touches_in}
use Rattle.claims_touches.proofs.Touched.{items_are}
use Rattle.claims_touches.proofs.blocks.leaving_block.Goals as goal

pub returns : goal.returns
returns c =
    let s = c.args.scope.now in
    let last = leave_items (memory s) (program s) s.number true 0 in
    ap (touches_in s) (c.in_ok-touches.ensures ∙ ap item_names (c.as_slice.ensures.value ∙ c.in_ok-emit_return.ensures ∙ ap (λ l. l ++ last) c.new-items.ensures.items))
    ∙ items_are (program s).claims last
