use Rattle.std.proofs.Common.{◌≡◌, ◌∷◌, ◌++◌, ◌+◌, ◌*◌, [], map, drop, ap, subst, ◌∙◌, arith}
use Rattle.report_lines.specs.Sums.{term_in, IsReadingSum}
use Rattle.report_lines.proofs.TermLemmas.{begun, next_at, added_at, none_at, terms_at}
use Rattle.report_lines.proofs.sums.sum.Goals as goal

pub terms-init : goal.terms-init
terms-init c = begun c.args.first.now (map (λ w. w.now) c.args.words.now) _ c.requires.form c.requires.in_range (c.in_ok-add_term.ensures ∙ ap (λ s. s ++ term_in c.args.first.now ∷ []) c.new-sum.ensures)

pub add_term-requires-in-terms-clause-form : goal.add_term-requires-in-terms-clause-form
add_term-requires-in-terms-clause-form c = (next_at (λ w. w.now) c.args.words.now (2 * c.terms.i) _ c.terms.sum (c.args.first.now ∷ map (λ w. w.now) c.args.words.now) (omega (arith, c.terms-test.true)) c.terms.invariant).term

pub add_term-requires-in-terms-clause-in_range : goal.add_term-requires-in-terms-clause-in_range
add_term-requires-in-terms-clause-in_range c = (next_at (λ w. w.now) c.args.words.now (2 * c.terms.i) _ c.terms.sum (c.args.first.now ∷ map (λ w. w.now) c.args.words.now) (omega (arith, c.terms-test.true)) c.terms.invariant).in_range

pub add_term-requires-in-terms-clause-behind : goal.add_term-requires-in-terms-clause-behind
add_term-requires-in-terms-clause-behind c = (next_at (λ w. w.now) c.args.words.now (2 * c.terms.i) _ c.terms.sum (c.args.first.now ∷ map (λ w. w.now) c.args.words.now) (omega (arith, c.terms-test.true)) c.terms.invariant).behind

pub terms-preserved : goal.terms-preserved
terms-preserved c =
    let all = c.args.first.now ∷ map (λ w. w.now) c.args.words.now in
    let place : 2 * c.terms.i + 2 ≡ 2 * (c.terms.i + 1) = omega arith in
    subst (λ k. IsReadingSum c.add_term-in-terms.new.sum (map (λ w. w.now) (drop k c.args.words.now)) all) place
    (added_at (λ w. w.now) c.args.words.now (2 * c.terms.i) _ c.terms.sum c.add_term-in-terms.new.sum all (omega (arith, c.terms-test.true)) c.terms.invariant c.in_ok-add_term-2.ensures)

pub returns-clause-terms : goal.returns-clause-terms
returns-clause-terms c = terms_at (λ w. w.now) c.args.words.now (2 * c.terms.i) c.terms.sum (c.args.first.now ∷ map (λ w. w.now) c.args.words.now) c.terms.invariant

pub returns-clause-written : goal.returns-clause-written
returns-clause-written c = none_at (λ w. w.now) c.args.words.now (2 * c.terms.i) c.terms.sum (c.args.first.now ∷ map (λ w. w.now) c.args.words.now) (omega (arith, c.terms-test.false)) c.terms.invariant
