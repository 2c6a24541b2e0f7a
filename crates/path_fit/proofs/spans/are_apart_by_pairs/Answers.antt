use Rattle.std.proofs.Common.{◌≡◌, ◌+◌, false, sym, ◌∙◌, get_or, subst, rules}
use Rattle.std.specs.Prelude.{All}
use Rattle.code_flow_lookup.proofs.RunLemmas.{rest_is}
use Rattle.code_flow_system.specs.declared.shapes.Span.{Span}
use Rattle.code_flow_system.specs.Shapes.{AreApart}
use Rattle.path_fit.proofs.ApartLemmas.{apart_more, not_apart}
use Rattle.path_fit.proofs.spans.are_apart_by_pairs.Goals as goal

abbrev first_span : Span
first_span = record { first = 0; end = 0 }

pub loop-i-preserved : goal.loop-i-preserved
loop-i-preserved c =
    apart_more c.args.spans.now c.loop-i.i first_span c.loop-i-test.true
    (subst (All (AreApart (get_or c.args.spans.now c.loop-i.i first_span))) (rest_is (c.loop-i.i + 1) c.args.spans.now) (c.is_apart_from.ensures.0 (search rules)))
    c.loop-i.invariant

pub returns-then-not-is_apart_from : goal.returns-then-not-is_apart_from
returns-then-not-is_apart_from c = (
  λ e. cc,
  λ h.
      let f : c.is_apart_from.result ≡ false = search rules in
      sym f
      ∙ c.is_apart_from.ensures.1
      (subst (All (AreApart (get_or c.args.spans.now c.loop-i.i first_span))) (sym (rest_is (c.loop-i.i + 1) c.args.spans.now))
      (not_apart c.args.spans.now c.loop-i.i first_span c.loop-i-test.true c.loop-i.invariant h)),
)
