use Rattle.std.proofs.Common.{◌≡◌, ◌∙◌, ap, sym, [], rules}
use Rattle.std.specs.Prelude.{Some}
use Rattle.facts_definitions.specs.PragmaTexts.{compare, runs}
use Rattle.facts_pragma.specs.Reading.{read_sum}
use Rattle.facts_pragma.proofs.Whole.{no_right, whole}
use Rattle.facts_pragma.proofs.comparison.restriction_among.Goals as goal

pub returns-in-None : goal.returns-in-None
returns-in-None c =
    let op : compare c.in-Some-next_run.sign.bytes.now ≡ Some c.in-Some-compare.op = search rules in
    sym (no_right c.args.names.now c.args.at (runs c.args.text.now) (runs c.in-Some-next_run.sign.rest.now) _ _ _ (sym c.in_ok-left.ensures ∙ ap read_sum c.in-Some.is) c.in-Some-next_run.ensures.some op
    (sym c.in_ok-read_sum.ensures ∙ ap read_sum c.in-None.is))

pub returns-else-is_some : goal.returns-else-is_some
returns-else-is_some c =
    let op : compare c.in-Some-next_run.sign.bytes.now ≡ Some c.in-Some-compare.op = search rules in
    let none : runs c.in-Some-2.right.rest.now ≡ [] = search rules in
    c.restricted.ensures
    ∙ sym (whole c.args.names.now c.args.at (runs c.args.text.now) (runs c.in-Some-next_run.sign.rest.now) _ _ _ (sym c.in_ok-left.ensures ∙ ap read_sum c.in-Some.is) c.in-Some-next_run.ensures.some op _
    (sym c.in_ok-read_sum.ensures ∙ ap read_sum c.in-Some-2.is) none)
