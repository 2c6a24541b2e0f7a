use Rattle.std.proofs.Common.{◌≡◌, drop}
use Rattle.low_ir.specs.Effects.{is_member}
use Rattle.low_make.proofs.order.is_member.Given as goal

abbrev pub invariant-loop-other : goal.invariant-loop-other
invariant-loop-other l = is_member (drop l.other-index l.numbers) l.number ≡ is_member l.numbers l.number
