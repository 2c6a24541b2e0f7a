use Rattle.std.proofs.Common.{◌≡◌, false, arith, refl, sym, ◌∙◌, rules}
use Rattle.path_fit.proofs.NestLemmas.{closed_nest, nest_closed, closed_more}
use Rattle.path_fit.proofs.nest.nest_in_order.Goals as goal

pub loop-i-init : goal.loop-i-init
loop-i-init c = λ i least long. absurd (omega arith)

pub is_closed-requires-clause-behind : goal.is_closed-requires-clause-behind
is_closed-requires-clause-behind c = λ i least long. c.loop-i.invariant i (omega (arith, least, c.loop-i-test.true)) long

pub loop-i-preserved : goal.loop-i-preserved
loop-i-preserved c = closed_more c.args.shapes.now c.loop-i.i _ c.loop-i-test.true refl (c.is_closed.ensures.0 (search rules)) c.loop-i.invariant

pub returns-then-not-is_closed : goal.returns-then-not-is_closed
returns-then-not-is_closed c = (
  λ e. cc,
  λ h.
      let f : c.is_closed.result ≡ false = search rules in
      sym f ∙ c.is_closed.ensures.1 (nest_closed c.args.shapes.now c.requires.ascending c.requires.filled h _),
)

pub returns : goal.returns
returns c = (λ e. closed_nest c.args.shapes.now c.requires.ascending (λ i least long. c.loop-i.invariant i (omega (arith, c.loop-i-test.false)) long), λ h. refl)
