use Rattle.std.proofs.Common.{arith, sym, ◌∙◌}
use Rattle.register_allocation.proofs.Turning.{own_next}
use Rattle.register_allocation.proofs.briefs.are_own_before.Goals as goal

pub loop-at-preserved : goal.loop-at-preserved
loop-at-preserved c = own_next c.args.turns.now c.args.each c.loop-at.at c.loop-at.invariant (sym c.is_own.ensures ∙ c.if-not-is_own.false)

pub returns : goal.returns
returns c e p from to = c.loop-at.invariant p from (omega (arith, to, c.loop-at-test.false))
