use Rattle.std.proofs.Common.{◌≡◌, false, refl, sym, ◌∙◌, subst, inl, inr, arith, rules}
use Rattle.std.proofs.lemmas.Bool.Decides.{eqb_tells}
use Rattle.path_fit.specs.Spans.{KeepAt}
use Rattle.path_fit.proofs.spans.keep.Goals as goal

pub returns-then-not-keep_at : goal.returns-then-not-keep_at
returns-then-not-keep_at c = (
  λ e. cc,
  λ all.
      let f : c.keep_at.result ≡ false = search rules in
      sym f ∙ c.keep_at.ensures.1 (subst (λ ms. KeepAt c.loop-i.i c.args.spans.now ms) (sym c.moves-moves.ensures.value) (all c.loop-i.i c.loop-i-test.true)),
)

pub loop-i-preserved : goal.loop-i-preserved
loop-i-preserved c = λ j lt. elim (eqb_tells j c.loop-i.i) [
  | inl e ↦ subst (λ n. KeepAt n c.args.spans.now c.moves-moves.result.now) (sym e.1) (c.keep_at.ensures.0 (search rules))
  | inr e ↦ let n = e.1 in c.loop-i.invariant j (omega arith)
]

pub returns : goal.returns
returns c = (λ e. (λ j lt. subst (λ ms. KeepAt j c.args.spans.now ms) c.moves-moves.ensures.value (c.loop-i.invariant j (omega (arith, lt, c.loop-i-test.false)))), λ h. refl)
