use Rattle.std.proofs.Common.{arith, ◌∙◌}
use Rattle.high_parts.proofs.Making.{part_size, size_of_seq}
use Rattle.unroller.proofs.Rows.{loop_seq}
use Rattle.unroller.proofs.measure.+loops.Goals as goal

pub has_loop-has_loop_any-requires : goal.has_loop-has_loop_any-requires
has_loop-has_loop_any-requires t c = (omega (arith, c.decreases, size_of_seq c.args.statement.now c.in-Seq.parts c.deref.result.now c.in-Seq.is c.deref.ensures.value), tt)

pub has_loop-returns-in-Seq : goal.has_loop-returns-in-Seq
has_loop-returns-in-Seq t c = c.has_loop_any.ensures ∙ loop_seq c.args.statement.now c.in-Seq.parts c.deref.result.now c.in-Seq.is c.deref.ensures.value

pub has_loop_any-has_loop-requires : goal.has_loop_any-has_loop-requires
has_loop_any-has_loop-requires t c = (omega (arith, c.decreases, part_size c.args.parts.now c.loop-part.part-index c.part-item.result c.loop-part-test.true c.part-item.is), tt)
