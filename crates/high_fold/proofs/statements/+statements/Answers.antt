use Rattle.std.proofs.Common.{◌≡◌, Some, rules, arith, ap, length, ◌∙◌}
use Rattle.high_ir.specs.View.{expr_of, statement_of}
use Rattle.high_parts.proofs.Making.{part_size, size_of_seq}
use Rattle.high_fold.proofs.Making.{all_folded, both_kept, both_made, first_kept, first_made, loop_kept, loop_made, other_behind, other_kept, other_made, part_folded, part_kept, seq_folded, seq_kept, ways_kept}
use Rattle.high_fold.proofs.statements.+statements.Goals as goal

pub folded-folded_all-requires : goal.folded-folded_all-requires
folded-folded_all-requires t c =
    (omega (arith, c.decreases, size_of_seq c.args.statement.now c.in-Seq.parts c.deref.result.now c.in-Seq.is c.deref.ensures.value), tt)

pub folded-returns-in_ok-made-in-Seq-clause-made : goal.folded-returns-in_ok-made-in-Seq-clause-made
folded-returns-in_ok-made-in-Seq-clause-made t c =
    seq_folded (length c.args.kept.now.items) c.args.statement.now c.in-Seq.parts c.deref.result.now c.in_ok-made-in-Seq.made c.in-Seq.is c.deref.ensures.value c.in_ok-made-in-Seq.ensures.made

pub folded-returns-in_ok-made-in-Seq-clause-kept : goal.folded-returns-in_ok-made-in-Seq-clause-kept
folded-returns-in_ok-made-in-Seq-clause-kept t c =
    seq_kept c.args.statement.now c.in-Seq.parts c.deref.result.now _ _ c.in-Seq.is c.deref.ensures.value c.in_ok-made-in-Seq.ensures.kept

pub folded_all-folded-requires : goal.folded_all-folded-requires
folded_all-folded-requires t c =
    (omega (arith, c.decreases, part_size c.args.parts.now c.loop-part.part-index c.part-item.result c.loop-part-test.true c.part-item.is), tt)

pub folded_all-loop-part-preserved : goal.folded_all-loop-part-preserved
folded_all-loop-part-preserved t c =
    record {
      made =
          part_folded c.args.parts.now _ _ c.loop-part.part-index c.part-item.result _ _ _
          c.loop-part-test.true c.part-item.is c.in_ok-folded.ensures.made c.in_ok-folded.ensures.kept c.in_ok-push.ensures.items
          ∙ c.loop-part.invariant.made;
      kept =
          part_kept c.args.parts.now c.loop-part.part-index c.part-item.result _ _ c.loop-part-test.true c.part-item.is c.in_ok-folded.ensures.kept
          ∙ c.loop-part.invariant.kept;
    }

pub folded_all-returns-clause-made : goal.folded_all-returns-clause-made
folded_all-returns-clause-made t c =
    all_folded c.args.parts.now c.loop-part.made.items c.loop-part.part-index (length c.loop-part.kept.items) c.loop-part-test.false ∙ c.loop-part.invariant.made

pub folded_choice-returns-in_ok-choice-in-Ok-clause-made : goal.folded_choice-returns-in_ok-choice-in-Ok-clause-made
folded_choice-returns-in_ok-choice-in-Ok-clause-made t c =
    c.in_ok-choice-in-Ok.ensures
    ∙ both_made (expr_of c.args.test.now) (expr_of c.in_ok-test.test) (statement_of c.args.first.now) (statement_of c.args.other.now) (length c.args.kept.now.items) c.in_ok-test.ensures
    _ _ c.constant_of.result c.constant_of.ensures c.in-None.is c.in-Ok.ensures.first c.in-Ok.ensures.other

pub folded_choice-returns-in_ok-choice-in-Ok-clause-kept : goal.folded_choice-returns-in_ok-choice-in-Ok-clause-kept
folded_choice-returns-in_ok-choice-in-Ok-clause-kept t c =
    both_kept (expr_of c.args.test.now) (expr_of c.in_ok-test.test) (statement_of c.args.first.now) (statement_of c.args.other.now) (length c.args.kept.now.items) c.in_ok-test.ensures
    _ _ c.constant_of.result c.constant_of.ensures c.in-None.is c.in-Ok.ensures.kept

pub folded_choice-returns-in_ok-folded-in-Some-eq0-clause-made : goal.folded_choice-returns-in_ok-folded-in-Some-eq0-clause-made
folded_choice-returns-in_ok-folded-in-Some-eq0-clause-made t c =
    let naught : c.in-Some-eq0.field-0 ≡ 0 = search rules in
    other_made (expr_of c.args.test.now) (expr_of c.in_ok-test.test) (statement_of c.args.first.now) (statement_of c.args.other.now) (length c.args.kept.now.items) c.in_ok-test.ensures
    _ c.constant_of.result c.constant_of.ensures (c.in-Some-eq0.is ∙ ap Some naught) c.in_ok-folded-in-Some-eq0.ensures.made

pub folded_choice-returns-in_ok-folded-in-Some-eq0-clause-kept : goal.folded_choice-returns-in_ok-folded-in-Some-eq0-clause-kept
folded_choice-returns-in_ok-folded-in-Some-eq0-clause-kept t c =
    let naught : c.in-Some-eq0.field-0 ≡ 0 = search rules in
    other_kept (expr_of c.args.test.now) (expr_of c.in_ok-test.test) (statement_of c.args.first.now) (statement_of c.args.other.now) (length c.args.kept.now.items) c.in_ok-test.ensures
    _ _ c.constant_of.result c.constant_of.ensures (c.in-Some-eq0.is ∙ ap Some naught) c.in_ok-folded-in-Some-eq0.ensures.kept

pub folded_choice-returns-in_ok-folded-in-Some-clause-made : goal.folded_choice-returns-in_ok-folded-in-Some-clause-made
folded_choice-returns-in_ok-folded-in-Some-clause-made t c =
    first_made (expr_of c.args.test.now) (expr_of c.in_ok-test.test) (statement_of c.args.first.now) (statement_of c.args.other.now) (length c.args.kept.now.items) c.in_ok-test.ensures
    _ c.constant_of.result _ c.constant_of.ensures c.in-Some.is c.in-Some.field-0-test.1 c.in_ok-folded-in-Some.ensures.made

pub folded_choice-returns-in_ok-folded-in-Some-clause-kept : goal.folded_choice-returns-in_ok-folded-in-Some-clause-kept
folded_choice-returns-in_ok-folded-in-Some-clause-kept t c =
    first_kept (expr_of c.args.test.now) (expr_of c.in_ok-test.test) (statement_of c.args.first.now) (statement_of c.args.other.now) (length c.args.kept.now.items) c.in_ok-test.ensures
    _ _ c.constant_of.result _ c.constant_of.ensures c.in-Some.is c.in-Some.field-0-test.1 c.in_ok-folded-in-Some.ensures.kept

pub folded_ways-returns-in-Ok-clause-other : goal.folded_ways-returns-in-Ok-clause-other
folded_ways-returns-in-Ok-clause-other t c =
    other_behind (statement_of c.args.first.now) (statement_of c.args.other.now) _ _ _ c.in_ok-made.ensures.kept c.in-Ok.ensures.made

pub folded_ways-returns-in-Ok-clause-kept : goal.folded_ways-returns-in-Ok-clause-kept
folded_ways-returns-in-Ok-clause-kept t c =
    ways_kept (statement_of c.args.first.now) (statement_of c.args.other.now) _ _ _ c.in_ok-made.ensures.kept c.in-Ok.ensures.kept

pub folded_loop-returns-clause-made : goal.folded_loop-returns-clause-made
folded_loop-returns-clause-made t c =
    loop_made c.args.turns.id c.args.turns.min c.args.turns.max c.in_ok-number.number (statement_of c.args.body.now) _ _ _ _
    (c.in_ok-number.ensures ∙ ap length c.deref.ensures.value) c.in_ok-push.ensures.items c.in_ok-body.ensures.made c.in_ok-loop_of.ensures

pub folded_loop-returns-clause-kept : goal.folded_loop-returns-clause-kept
folded_loop-returns-clause-kept t c =
    loop_kept c.args.turns.id c.args.turns.min c.args.turns.max (statement_of c.args.body.now) _ _ _ c.in_ok-push.ensures.items c.in_ok-body.ensures.kept
