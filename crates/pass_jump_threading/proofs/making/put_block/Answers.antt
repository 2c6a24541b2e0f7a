use Rattle.std.proofs.Common.{All, None, Option, Some, ap, arith, length, map, subst, sym, ◌+◌, ◌∙◌, ◌≡◌}
use Rattle.std.specs.Prelude.{IfSome}
use Rattle.std.proofs.lemmas.List.{length-map, map_push}
use Rattle.low_ir.specs.declared.low.Block.{Block}
use Rattle.low_ir.specs.View.{block_of, function_of, loop_of}
use Rattle.pass_jump_threading_law.specs.Threads.{BlockThreaded}
use Rattle.pass_jump_threading.specs.Planning.{IsSeen, SoFar, name_by, plan_of}
use Rattle.pass_jump_threading.proofs.Blocks.{one_left, one_left_out}
use Rattle.pass_jump_threading.proofs.Lists.{drop_map_here, item_at, item_past}
use Rattle.pass_jump_threading.proofs.making.put_block.Goals as goal

pub returns-in-None : goal.returns-in-None
returns-in-None c = λ done all.
    let fn = c.args.function.now in
    let block = c.index-block.result.now in
    one_left_out (function_of fn) (plan_of c.args.plan.now) c.args.at (map block_of c.args.made.now.items) (block_of block)
    (drop_map_here block_of fn.blocks.items c.args.at block c.requires c.index-block.ensures)
    (ap name_by (item_past c.deref.result.now c.args.plan.now.stays.items c.args.at c.deref.ensures.value c.in-None.ensures.lookup.3))

pub returns-in-Some-None : goal.returns-in-Some-None
returns-in-Some-None c = λ done all.
    let fn = c.args.function.now in
    let block = c.index-block.result.now in
    let it = c.in-Some-None in
    one_left_out (function_of fn) (plan_of c.args.plan.now) c.args.at (map block_of c.args.made.now.items) (block_of block)
    (drop_map_here block_of fn.blocks.items c.args.at block c.requires c.index-block.ensures)
    (ap name_by (item_at c.deref.result.now c.args.plan.now.stays.items c.args.at it.field-0.now None c.deref.ensures.value it.ensures.lookup.3.0 it.ensures.lookup.1 it.field-0-is))

pub returns-in_ok-push-in-Some : goal.returns-in_ok-push-in-Some
returns-in_ok-push-in-Some c = λ done all so.
    let fn = c.args.function.now in
    let p = c.args.plan.now in
    let n = c.args.at in
    let block = c.index-block.result.now in
    let made = c.args.made.now.items in
    let new = c.in-Some.new in
    let it = c.in-Some-Some in
    let there = item_at c.deref.result.now p.stays.items n it.field-0.now (Some it.stay) c.deref.ensures.value it.ensures.lookup.3.0 it.ensures.lookup.1 it.field-0-is in
    let count : it.stay.name ≡ length (map block_of made) = omega (arith, c.if-stay-len.false, c.len.ensures, length-map made block_of) in
    let one =
    subst (λ (o : Option Block). IfSome o (λ (b : Block). All (IsSeen p.seen.items) (map loop_of fn.loops.items) → BlockThreaded (function_of fn) (plan_of p) n (block_of block) (block_of b))) c.in-Some.is c.in_ok-block_at-in-Some-Some.ensures in
    subst (SoFar (function_of fn) (plan_of p) (n + 1)) (sym (ap (map block_of) c.in_ok-push-in-Some.ensures.items ∙ map_push block_of made new))
    (one_left (function_of fn) (plan_of p) n (map block_of made) (block_of block) (block_of new)
    (drop_map_here block_of fn.blocks.items n block c.requires c.index-block.ensures)
    (ap name_by there ∙ ap Some count) (one all) so)
