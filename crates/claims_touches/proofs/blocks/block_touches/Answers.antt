use Rattle.std.proofs.Common.{◌++◌, map, ap, ◌∙◌}
use Rattle.low_ir.specs.View.{instr_of, end_of}
use Rattle.asm_code.specs.Scopes.{memory, program, placed_code, placed_end}
use Rattle.claims_touches.specs.Bodies.{instrs_touches, touches_in}
use Rattle.claims_touches.proofs.Touched.{block_made}
use Rattle.claims_touches.proofs.blocks.block_touches.Goals as goal

pub returns : goal.returns
returns c =
    let s = c.args.scope.now in
    let m = memory s in
    let p = program s in
    let f = s.number in
    let spot = c.args.spot in
    let is = placed_code s spot.place (map instr_of c.args.block.now.code.items) in
    ap (touches_in s) c.new.ensures
    ∙ block_made m p f spot.block is (placed_end s (end_of c.args.block.now.end)) c.new-touches.result.items c.put_opening.new.touches.items c.put_code.new.touches.items c.put_end.new.touches.items c.fill.new.touches.items
    c.new-touches.ensures.items c.in_ok-put_opening.ensures
    (c.in_ok-put_code.ensures ∙ ap (λ l. touches_in s c.put_opening.new.touches.items ++ instrs_touches m p f (placed_code s spot.place (map instr_of l))) c.as_slice.ensures.value)
    c.in_ok-put_end.ensures c.in_ok-fill.ensures
