use Rattle.std.proofs.Common.{◌++◌, map, ap, ◌∙◌}
use Rattle.low_ir.specs.View.{instr_of, end_of}
use Rattle.asm_code.specs.Bodies.{instrs_items}
use Rattle.asm_code.specs.Scopes.{memory, program, placed_code, placed_end}
use Rattle.asm_code.proofs.Steps.{block-made}
use Rattle.asm_code.proofs.blocks.block_items.Goals as goal

pub returns : goal.returns
returns c =
    let s = c.args.scope.now in
    let m = memory s in
    let p = program s in
    let f = s.number in
    let spot = c.args.spot in
    let is = placed_code s spot.place (map instr_of c.args.block.now.code.items) in
    c.new.ensures
    ∙ block-made m p f spot.block is (placed_end s (end_of c.args.block.now.end)) c.new-items.result.items c.emit_opening.new.items.items c.emit_code.new.items.items c.emit_end.new.items.items c.fill.new.items.items
    c.new-items.ensures.items c.in_ok-emit_opening.ensures
    (c.in_ok-emit_code.ensures ∙ ap (λ l. c.emit_opening.new.items.items ++ instrs_items m p f (placed_code s spot.place (map instr_of l))) c.as_slice.ensures.value)
    c.in_ok-emit_end.ensures c.in_ok-fill.ensures
