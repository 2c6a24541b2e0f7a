use Rattle.std.proofs.Common.{ap, arith, length}
use Rattle.elf_image.proofs.Sizes.{headers_more, contents-drop}
use Rattle.elf_image.proofs.writing.put_program_headers.Goals as goal

pub loop-segment-preserved : goal.loop-segment-preserved
loop-segment-preserved c =
    let k = contents-drop c.args.segments.now c.loop-segment.segment-index c.segment-item.result c.loop-segment-test.true c.segment-item.is in
    let n = ap length c.as_slice.ensures in
    (headers_more _ _ _ _ _ _ _ c.segment-item.result c.loop-segment-test.true c.segment-item.is n c.in_ok-put_program_header.ensures c.loop-segment.invariant.0, omega (arith, k, n, c.loop-segment.invariant.1))
