use Rattle.std.proofs.Common.{arith}
use Rattle.high_parts.proofs.Making.{part_size, size_of_seq}
use Rattle.high_again.proofs.Making.{seq_same}
use Rattle.high_again.proofs.statements.+statements.Goals as goal

pub copied-copied_all-requires : goal.copied-copied_all-requires
copied-copied_all-requires t c = (omega (arith, c.decreases, size_of_seq c.args.statement.now c.in-Seq.parts c.deref.result.now c.in-Seq.is c.deref.ensures.value), tt)

pub copied-returns-in_ok-made-in-Seq : goal.copied-returns-in_ok-made-in-Seq
copied-returns-in_ok-made-in-Seq t c = seq_same c.args.statement.now c.in-Seq.parts c.deref.result.now c.in_ok-made-in-Seq.made c.in-Seq.is c.deref.ensures.value c.in_ok-made-in-Seq.ensures

pub copied_all-copied-requires : goal.copied_all-copied-requires
copied_all-copied-requires t c = (omega (arith, c.decreases, part_size c.args.parts.now c.loop-part.part-index c.part-item.result c.loop-part-test.true c.part-item.is), tt)
