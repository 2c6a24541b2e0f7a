use Rattle.std.proofs.Common.{ap, ◌∙◌, ◌∷◌, rules}
use Rattle.facts_pragma.proofs.Terms.{term_reads}
use Rattle.facts_pragma.proofs.sums.read_term.Goals as goal

pub returns-clause-some : goal.returns-clause-some
returns-clause-some c =
    let coef = c.in-Some.coef.bytes.now in
    let star = c.in-Some-next_run.star.bytes.now in
    let name = c.in-Some-next_run-2.name.bytes.now in
    term_reads c.args.names.now _ coef star name _ c.in-Some-number.number c.in_ok-id.id
    (c.in-Some.ensures.some ∙ ap (λ rest. coef ∷ rest) (c.in-Some-next_run.ensures.some ∙ ap (λ rest. star ∷ rest) c.in-Some-next_run-2.ensures.some))
    (search rules) (search rules) (search rules) c.in_ok-id.ensures
