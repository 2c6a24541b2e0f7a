use Rattle.std.proofs.Common.{arith, sym, ◌∙◌}
use Rattle.parse_words.proofs.Runs.{goes_on, ends}
use Rattle.parse_words.proofs.numbering.number_text.Goals as goal
use Rattle.parse_words.proofs.numbering.number_text.Goals.{then-not-is_name_byte+in_ok-number_run, else-not-is_name_byte}

pub loop-at-preserved : goal.loop-at-preserved
loop-at-preserved c =
    let l = c.loop-at in
    let rest = c.behind_first_word-rest.result.now in
    elim c.if-not-is_name_byte.branch [
      | then-not-is_name_byte+in_ok-number_run w ↦ record {
        ordered = omega (arith, w.from-is);
        same = rw (w.names-is, w.from-is, w.in_ok-number_run.ensures) (ends rest l.from l.at l.names l.invariant.ordered c.loop-at-test.true (sym w.if-not-is_name_byte.ensures) ∙ l.invariant.same);
      }
      | else-not-is_name_byte w ↦ record {
        ordered = omega (arith, w.from-is, l.invariant.ordered);
        same = rw (w.names-is, w.from-is) (goes_on rest l.from l.at l.names l.invariant.ordered c.loop-at-test.true (sym w.if-not-is_name_byte.ensures) ∙ l.invariant.same);
      }
    ]
