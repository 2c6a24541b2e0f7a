use Rattle.std.proofs.Common.{arith, length, map, ◌≤◌}
use Rattle.std.proofs.lemmas.List.{length-map}
use Rattle.low_ir.specs.View.{block_of, function_of}
use Rattle.pass_jump_threading.specs.Planning.{plan_of}
use Rattle.pass_jump_threading.proofs.Blocks.{all_made}
use Rattle.pass_jump_threading.proofs.making.blocks_of.Goals as goal

pub returns : goal.returns
returns c = λ all.
    let blocks = c.args.function.now.blocks.items in
    let past : length (map block_of blocks) ≤ c.loop-at.at = omega (arith, c.loop-at-test.false, c.len-at-end.ensures, length-map blocks block_of) in
    all_made (function_of c.args.function.now) (plan_of c.args.plan.now) c.loop-at.at (map block_of c.loop-at.made.items) past (c.loop-at.invariant all)
