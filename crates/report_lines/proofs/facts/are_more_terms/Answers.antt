use Rattle.std.proofs.Common.{◌≡◌, ◌+◌, ◌*◌, true, map, drop, ap, sym, ◌∙◌, arith, rules}
use Rattle.std.proofs.lemmas.Grind.{common_steps}
use Rattle.report_lines.specs.Sums.{are_more_terms}
use Rattle.report_lines.proofs.TermLemmas.{odd_more, more_if_next}
use Rattle.report_lines.proofs.facts.are_more_terms.Goals as goal

pub returns-then-words-eq1 : goal.returns-then-words-eq1
returns-then-words-eq1 c = odd_more (λ w. w.now) c.args.first c.args.words.now c.if-words-eq1.true

pub terms-preserved : goal.terms-preserved
terms-preserved c =
    let next : c.is_next.result ≡ true = first_of (search rules, grind (arith, common_steps)) in
    let place : 2 * (c.terms.i + 1) ≡ 2 * c.terms.i + 2 = omega arith in
    ap (λ k. are_more_terms c.term_address-last.result (map (λ w. w.now) (drop k c.args.words.now))) place
    ∙ ap (λ a. are_more_terms a (map (λ w. w.now) (drop (2 * c.terms.i + 2) c.args.words.now))) c.term_address-last.ensures
    ∙ sym (more_if_next (λ w. w.now) c.args.words.now (2 * c.terms.i) c.terms.last _ (omega (arith, c.terms-test.true)) (sym c.is_next.ensures ∙ next))
    ∙ c.terms.invariant
