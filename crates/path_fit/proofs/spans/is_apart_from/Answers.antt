use Rattle.std.proofs.Common.{◌≡◌, false, refl, sym, ◌∙◌, subst, arith, rules}
use Rattle.std.proofs.lemmas.List.{get_or_default}
use Rattle.std.proofs.lemmas.List.Elements.{AllWithin-more}
use Rattle.code_flow_system.specs.declared.shapes.Span.{Span}
use Rattle.code_flow_system.specs.Shapes.{AreApart}
use Rattle.path_fit.proofs.spans.is_apart_from.Goals as goal

abbrev first_span : Span
first_span = record { first = 0; end = 0 }

pub returns-then-not-is_apart : goal.returns-then-not-is_apart
returns-then-not-is_apart c = (
  λ e. cc,
  λ all.
      let f : c.is_apart.result ≡ false = search rules in
      sym f ∙ c.is_apart.ensures.1 (all c.loop-i.i first_span c.loop-i-test.true),
)

pub loop-i-preserved : goal.loop-i-preserved
loop-i-preserved c = AllWithin-more (AreApart c.args.span) c.args.others.now 0 c.loop-i.i c.loop-i.invariant
    (λ d. subst (AreApart c.args.span) (get_or_default c.args.others.now c.loop-i.i first_span d c.loop-i-test.true) (c.is_apart.ensures.0 (search rules)))

pub returns : goal.returns
returns c = (λ e. (λ k d lt. c.loop-i.invariant k d (omega arith) (omega (arith, lt, c.loop-i-test.false))), λ h. refl)
