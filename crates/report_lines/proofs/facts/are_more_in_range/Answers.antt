use Rattle.std.proofs.Common.{◌≡◌, ◌+◌, ◌*◌, true, false, refl, map, drop, subst, sym, ◌∙◌, arith, rules}
use Rattle.std.proofs.lemmas.Grind.{common_steps}
use Rattle.report_lines.specs.Sums.{IsTestingSum}
use Rattle.report_lines.proofs.TermLemmas.{term_at, tested_at, failed_at, tested_all}
use Rattle.report_lines.proofs.facts.are_more_in_range.Goals as goal

pub terms-init : goal.terms-init
terms-init c = record { last = c.args.first; form = c.requires; same = refl }

pub is_term_in_range-requires : goal.is_term_in_range-requires
is_term_in_range-requires c = term_at (λ w. w.now) c.args.words.now (2 * c.terms.i) _ (map (λ w. w.now) c.args.words.now) (omega (arith, c.terms-test.true)) c.terms.invariant

pub terms-preserved : goal.terms-preserved
terms-preserved c =
    let passes : c.is_term_in_range.result ≡ true = first_of (search rules, grind (arith, common_steps)) in
    let place : 2 * c.terms.i + 2 ≡ 2 * (c.terms.i + 1) = omega arith in
    subst (λ k. IsTestingSum (map (λ w. w.now) (drop k c.args.words.now)) (map (λ w. w.now) c.args.words.now)) place
    (tested_at (λ w. w.now) c.args.words.now (2 * c.terms.i) _ (map (λ w. w.now) c.args.words.now) (omega (arith, c.terms-test.true)) c.terms.invariant (sym c.is_term_in_range.ensures ∙ passes))

pub returns-then-not-is_term_in_range : goal.returns-then-not-is_term_in_range
returns-then-not-is_term_in_range c =
    let fails : c.is_term_in_range.result ≡ false = first_of (search rules, grind (arith, common_steps)) in
    failed_at (λ w. w.now) c.args.words.now (2 * c.terms.i) _ (map (λ w. w.now) c.args.words.now) (omega (arith, c.terms-test.true)) c.terms.invariant (sym c.is_term_in_range.ensures ∙ fails)

pub returns : goal.returns
returns c = tested_all (λ w. w.now) c.args.words.now (2 * c.terms.i) (map (λ w. w.now) c.args.words.now) (omega (arith, c.terms-test.false)) c.terms.invariant
