use Rattle.std.proofs.Common.{ap, arith, ◌∙◌}
use Rattle.std.proofs.lemmas.Result.{MatchResult-weaker}
use Rattle.low_make.specs.View.{claims_of, passed_of}
use Rattle.lower_definition.specs.Calls.{at_sites}
use Rattle.lower_statement.proofs.Parts.{part_size, size_of_seq}
use Rattle.low_make.proofs.Walks.{sites_more, sites_of_seq}
use Rattle.low_make.proofs.passing.+sites.Goals as goal

pub at_sites-at_all_sites-requires : goal.at_sites-at_all_sites-requires
at_sites-at_all_sites-requires t c =
    (omega (arith, c.decreases, size_of_seq c.args.statement.now c.in-Seq.parts c.deref.result.now c.in-Seq.is c.deref.ensures.value), tt)

pub at_sites-returns-in-Seq : goal.at_sites-returns-in-Seq
at_sites-returns-in-Seq t c =
    MatchResult-weaker c.at_all_sites.result c.at_all_sites.ensures (λ _ passed.
    passed
    ∙ ap (at_sites c.args.caller.now.objects (claims_of c.args.caller.now.own.now) (passed_of c.args.passed.now.items)) (sites_of_seq c.args.statement.now c.in-Seq.parts c.deref.result.now c.in-Seq.is c.deref.ensures.value)) (λ memory none_passed. none_passed)

pub at_all_sites-at_sites-requires : goal.at_all_sites-at_sites-requires
at_all_sites-at_sites-requires t c =
    (omega (arith, c.decreases, part_size c.args.parts.now c.loop-part.part-index c.part-item.result c.loop-part-test.true c.part-item.is), tt)

pub at_all_sites-loop-part-preserved : goal.at_all_sites-loop-part-preserved
at_all_sites-loop-part-preserved t c =
    sites_more c.args.caller.now.objects (claims_of c.args.caller.now.own.now) (passed_of c.loop-part.passed.items) (passed_of c.at_sites.new.passed.items) c.args.parts.now c.loop-part.part-index c.part-item.result c.loop-part-test.true c.part-item.is c.in_ok-at_sites.ensures
    ∙ c.loop-part.invariant
