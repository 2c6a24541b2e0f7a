use Rattle.std.proofs.Common.{◌/◌, ◌%◌, ◌^◌, ap, ◌∙◌}
use Rattle.std.specs.Prelude.{◌==◌}
use Rattle.low_ir.specs.Places.{machine_registers}
use Rattle.asm_emission.proofs.Kept.{member_below}
use Rattle.asm_emission.proofs.calls.is_kept.Goals as goal

pub returns : goal.returns
returns c = ap (λ n. c.args.mask / 2 ^ n % 2 == 1) c.from.ensures ∙ member_below machine_registers c.args.mask c.args.register c.requires
