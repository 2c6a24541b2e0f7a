use Rattle.std.proofs.Common.{◌≡◌, suc, ◌+◌, All, drop, map, subst, sym, arith}
use Rattle.low_ir.specs.View.{block_of}
use Rattle.low_ir.specs.Places.{place_blocks}
use Rattle.asm_program.specs.Ranges.{InBlock}
use Rattle.asm_emission.specs.View.{place_at}
use Rattle.asm_code.specs.Scopes.{kept_at, memory, program}
use Rattle.asm_code.proofs.Steps.{drop-at, blocks-there, blocks-step, place-behind}
use Rattle.asm_code.proofs.blocks.all_blocks.Goals as goal

pub block_items-requires-clause-there : goal.block_items-requires-clause-there
block_items-requires-clause-there c =
    let s = c.args.scope.now in
    let k = c.loop-number.number in
    let x = c.index-blocks-number.result in
    let split = drop-at c.args.blocks.now k x c.loop-number-test.true c.index-blocks-number.is in
    (blocks-there (place_at s.places.now) (kept_at s.kept.now) c.loop-number.place (drop k c.args.blocks.now) (drop (k + 1) c.args.blocks.now) x split c.loop-number.invariant.there).0

pub loop-number-preserved : goal.loop-number-preserved
loop-number-preserved c =
    let s = c.args.scope.now in
    let pl = place_at s.places.now in
    let kept = kept_at s.kept.now in
    let k = c.loop-number.number in
    let x = c.index-blocks-number.result in
    let rest = drop (k + 1) c.args.blocks.now in
    let split = drop-at c.args.blocks.now k x c.loop-number-test.true c.index-blocks-number.is in
    let next : k + 1 ≡ suc k = omega arith in
    let behind = place-behind pl kept c.loop-number.place c.in_ok-behind.behind x c.in_ok-behind.ensures in
    record {
      all = blocks-step pl kept (memory s) (program s) s.number c.loop-number.all.items c.push.new.self.items _ k (k + 1) c.loop-number.place c.in_ok-behind.behind (drop k c.args.blocks.now) rest x c.in_ok-block_items.field-0 split next behind c.in_ok-push.ensures.items c.in_ok-block_items.ensures c.loop-number.invariant.all;
      there = subst (λ n. All InBlock (place_blocks pl kept n (map block_of rest))) (sym behind) (blocks-there pl kept c.loop-number.place (drop k c.args.blocks.now) rest x split c.loop-number.invariant.there).1;
    }
