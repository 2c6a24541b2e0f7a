use Rattle.std.proofs.Common.{◌++◌, ap, arith, ◌∙◌}
use Rattle.std.proofs.lemmas.Result.{MatchResult-weaker}
use Rattle.lower_statement.proofs.Parts.{part_size, size_of_seq}
use Rattle.low_make.proofs.Walks.{callees_more, callees_of_seq}
use Rattle.low_make.proofs.order.+callees.Goals as goal

pub callees-all_callees-requires : goal.callees-all_callees-requires
callees-all_callees-requires t c =
    (omega (arith, c.decreases, size_of_seq c.args.statement.now c.in-Seq.parts c.deref.result.now c.in-Seq.is c.deref.ensures.value), tt)

pub callees-returns-in-Seq : goal.callees-returns-in-Seq
callees-returns-in-Seq t c =
    MatchResult-weaker c.all_callees.result c.all_callees.ensures (λ _ found.
    found
    ∙ ap (λ l. c.args.found.now.items ++ l) (callees_of_seq c.args.statement.now c.in-Seq.parts c.deref.result.now c.in-Seq.is c.deref.ensures.value)) (λ memory none_found. none_found)

pub all_callees-callees-requires : goal.all_callees-callees-requires
all_callees-callees-requires t c =
    (omega (arith, c.decreases, part_size c.args.parts.now c.loop-part.part-index c.part-item.result c.loop-part-test.true c.part-item.is), tt)

pub all_callees-loop-part-preserved : goal.all_callees-loop-part-preserved
all_callees-loop-part-preserved t c =
    callees_more c.loop-part.found.items c.callees.new.found.items c.args.parts.now c.loop-part.part-index c.part-item.result c.loop-part-test.true c.part-item.is c.in_ok-callees.ensures
    ∙ c.loop-part.invariant
