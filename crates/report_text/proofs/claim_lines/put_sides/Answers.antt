use Rattle.std.proofs.Common.{◌++◌, ◌∷◌, ap, sym, ◌∙◌}
use Rattle.report_words.specs.Words.{spaced}
use Rattle.report_text.specs.Lines.{sum_words, compare_word}
use Rattle.report_text.proofs.TextLemmas.{more, sides}
use Rattle.report_text.proofs.claim_lines.put_sides.Goals as goal

pub returns : goal.returns
returns c =
    let claim = c.args.claim.now in
    let right = spaced (sum_words claim.right) in
    let sign = 32 ∷ compare_word claim.op in
    let text = c.args.text.now.items in
    let first = c.put_sum.new.text.items in
    let second = c.put_compare.new.text.items in
    let third = c.put_sum-2.new.text.items in
    more text first third (spaced (sum_words claim.left)) (sign ++ right) c.in_ok-put_sum.ensures
    (more first second third sign right c.in_ok-put_compare.ensures c.in_ok-put_sum-2.ensures)
    ∙ ap (λ t. text ++ t) (sym (sides (sum_words claim.left) (sum_words claim.right) (compare_word claim.op)))
