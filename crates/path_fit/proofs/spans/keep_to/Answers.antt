use Rattle.std.proofs.Common.{◌≡◌, false, refl, sym, ◌∙◌, subst, arith, rules}
use Rattle.std.proofs.lemmas.List.Elements.{AllWithin-more, at_read}
use Rattle.path_fit.specs.Spans.{KeepsTo}
use Rattle.path_fit.proofs.spans.keep_to.Goals as goal

pub returns-then-not-keeps_to : goal.returns-then-not-keeps_to
returns-then-not-keeps_to c = (
  λ e. cc,
  λ all.
      let f : c.keeps_to.result ≡ false = search rules in
      sym f ∙ c.keeps_to.ensures.1 (subst (KeepsTo c.args.before.now c.args.span) (sym c.index-steps-i.is) (all c.loop-i.i c.index-steps-i.result c.loop-i-test.true)),
)

pub loop-i-preserved : goal.loop-i-preserved
loop-i-preserved c = AllWithin-more (KeepsTo c.args.before.now c.args.span) c.args.steps.now 0 c.loop-i.i c.loop-i.invariant
    (at_read c.args.steps.now (KeepsTo c.args.before.now c.args.span) c.loop-i.i c.index-steps-i.result c.loop-i-test.true c.index-steps-i.is (c.keeps_to.ensures.0 (search rules)))

pub returns : goal.returns
returns c = (λ e. (λ k d lt. c.loop-i.invariant k d (omega arith) (omega (arith, lt, c.loop-i-test.false))), λ h. refl)
