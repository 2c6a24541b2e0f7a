use Rattle.std.proofs.Common.{arith}
use Rattle.elf_image.proofs.ReadBack.{more_addresses}
use Rattle.elf_image.proofs.laws.have_addresses.Goals as goal

pub loop-segment-preserved : goal.loop-segment-preserved
loop-segment-preserved c = λ rest. c.loop-segment.invariant (more_addresses _ _ c.segment-item.result c.loop-segment-test.true c.segment-item.is (omega (arith, c.address.ensures, c.address.type_inv)) rest)
