use Rattle.std.proofs.Common.{◌≡◌, drop}
use Rattle.low_ir.specs.Effects.{is_member}
use Rattle.pass_common_subexpressions.proofs.tests.is_member.Given as goal

abbrev pub invariant-loop-claimed : goal.invariant-loop-claimed
invariant-loop-claimed l = is_member (drop l.claimed-index l.claim) l.object ≡ is_member l.claim l.object
