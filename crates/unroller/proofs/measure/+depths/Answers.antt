use Rattle.std.proofs.Common.{◌+◌, max, arith, ap, sym, ◌∙◌}
use Rattle.high_parts.proofs.Making.{part_size, size_of_seq}
use Rattle.unroller.proofs.Rows.{deepest_all, deepest_more, depth_seq, part_depth}
use Rattle.unroller.proofs.measure.+depths.Goals as goal

pub depth-depth_all-requires : goal.depth-depth_all-requires
depth-depth_all-requires t c =
    let size = size_of_seq c.args.statement.now c.in-Seq.parts c.deref.result.now c.in-Seq.is c.deref.ensures.value in
    let same = depth_seq c.args.statement.now c.in-Seq.parts c.deref.result.now c.in-Seq.is c.deref.ensures.value in
    (omega (arith, c.decreases, size), omega (arith, c.requires, same))

pub depth-overflow_add-result-in-Seq : goal.depth-overflow_add-result-in-Seq
depth-overflow_add-result-in-Seq t c =
    let same = depth_seq c.args.statement.now c.in-Seq.parts c.deref.result.now c.in-Seq.is c.deref.ensures.value in
    omega (arith, c.requires, same, c.depth_all.ensures)

pub depth-returns-in-Seq : goal.depth-returns-in-Seq
depth-returns-in-Seq t c =
    ap (λ n. n + 1) c.depth_all.ensures ∙ sym (depth_seq c.args.statement.now c.in-Seq.parts c.deref.result.now c.in-Seq.is c.deref.ensures.value)

pub depth_all-depth-deep-requires : goal.depth_all-depth-deep-requires
depth_all-depth-deep-requires t c =
    let size = part_size c.args.parts.now c.loop-part.part-index c.part-item.result c.loop-part-test.true c.part-item.is in
    let less = part_depth c.args.parts.now c.loop-part.part-index c.part-item.result c.loop-part-test.true c.part-item.is in
    (omega (arith, c.decreases, size), omega (arith, c.requires, less))

pub depth_all-loop-part-preserved : goal.depth_all-loop-part-preserved
depth_all-loop-part-preserved t c =
    deepest_more c.args.parts.now c.loop-part.part-index c.part-item.result c.loop-part.deepest _ c.loop-part-test.true c.part-item.is (c.greater-deepest.ensures ∙ ap (max c.loop-part.deepest) c.depth-deep.ensures)
    ∙ c.loop-part.invariant

pub depth_all-returns : goal.depth_all-returns
depth_all-returns t c = deepest_all c.args.parts.now c.loop-part.part-index c.loop-part.deepest _ c.loop-part-test.false c.loop-part.invariant
