use Rattle.std.proofs.Common.{arith, ◌∙◌}
use Rattle.std.proofs.Math.Nat.{mod-lt}
use Rattle.frac128.proofs.OrderLemmas.{nat_equal, turned_over, wholes_decide, none_left, none_right}
use Rattle.frac128.proofs.order.compare_proper.Goals.{then-loop-a-test+else-c-ne0, else-loop-a-test}
use Rattle.frac128.proofs.order.compare_proper.Goals as goal

pub returns-in_default : goal.returns-in_default
returns-in_default c =
    wholes_decide c.loop-a.a c.loop-a.b c.loop-a.c c.loop-a.d c.cmp.result (omega (arith, c.loop-a-test.true)) (omega (arith, c.if-c-ne0.true)) c.cmp.ensures c.in_default.not-Equal ∙ c.loop-a.invariant.0

pub loop-a-preserved : goal.loop-a-preserved
loop-a-preserved c = (
  turned_over c.loop-a.a c.loop-a.b c.loop-a.c c.loop-a.d (nat_equal _ _ c.cmp.result c.cmp.ensures c.in-Equal.is) ∙ c.loop-a.invariant.0,
  mod-lt c.loop-a.d (omega (arith, c.if-c-ne0.true)),
  mod-lt c.loop-a.b (omega (arith, c.loop-a-test.true)),
)

pub returns : goal.returns
returns c = elim c.loop-a-test.branch [
  | then-loop-a-test+else-c-ne0 w ↦ c.cmp-2.ensures ∙ (none_right _ _ _ _ c.loop-a.invariant.1 c.loop-a.invariant.2 w.if-c-ne0.false ∙ c.loop-a.invariant.0)
  | else-loop-a-test w ↦ c.cmp-2.ensures ∙ (none_left _ _ _ _ c.loop-a.invariant.1 c.loop-a.invariant.2 w.loop-a-test.false ∙ c.loop-a.invariant.0)
]
