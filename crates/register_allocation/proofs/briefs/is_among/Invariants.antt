use Rattle.std.proofs.Common.{◌≡◌, drop}
use Rattle.low_ir.specs.Effects.{is_member}
use Rattle.register_allocation.proofs.briefs.is_among.Given as goal

abbrev pub invariant-loop-each : goal.invariant-loop-each
invariant-loop-each l = is_member (drop l.each-index l.registers) l.register ≡ is_member l.registers l.register
