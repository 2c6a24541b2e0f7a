use Rattle.std.proofs.Common.{sym, ◌∙◌}
use Rattle.register_allocation.proofs.Turning.{own_to}
use Rattle.register_allocation.proofs.briefs.are_own.Goals as goal

pub returns : goal.returns
returns c e = own_to c.args.turns.now c.args.each (c.are_own_before.ensures e) (sym c.is_own.ensures ∙ c.if-not-is_own.false)
