use Rattle.std.proofs.Common.{◌≡◌, true, false, refl, sym, ◌∙◌, subst, arith, rules}
use Rattle.code_flow_system.specs.declared.moves.Move.{Move}
use Rattle.path_fit.specs.Loops.{goes_alone}
use Rattle.path_fit.proofs.ShapeLemmas.{back_goes, goes_from}
use Rattle.path_fit.proofs.loops.goes_back.Goals as goal

pub returns-then-not-goes_alone : goal.returns-then-not-goes_alone
returns-then-not-goes_alone c = (
  λ e. cc,
  λ all.
      let f : c.goes_alone.result ≡ false = search rules in
      let g = back_goes c.args.system.now.moves c.moves.result.now c.moves_at-steps.result.now c.args.shape.back c.args.shape.header c.moves.ensures.value c.moves_at-steps.ensures all c.loop-i.i c.index-steps-i.result c.loop-i-test.true in
      sym f ∙ (c.goes_alone.ensures ∙ subst (λ (m : Move). goes_alone m.to m.behind c.args.shape.header ≡ true) (sym c.index-steps-i.is) g),
)

pub returns : goal.returns
returns c = (
  λ e. goes_from c.args.system.now.moves c.moves.result.now c.moves_at-steps.result.now c.args.shape.back c.args.shape.header c.moves.ensures.value c.moves_at-steps.ensures (λ k d lt. c.loop-i.invariant k d (omega arith) (omega (arith, lt, c.loop-i-test.false))),
  λ h. refl,
)
