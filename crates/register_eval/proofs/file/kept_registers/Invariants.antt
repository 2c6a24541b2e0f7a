use Rattle.std.proofs.Common.{◌≡◌}
use Rattle.low_ir.specs.Places.{kept_of, registers_of}
use Rattle.register_eval.proofs.file.kept_registers.Given as goal

abbrev pub invariant-loop-number : goal.invariant-loop-number
invariant-loop-number l = l.kept.items ≡ kept_of (registers_of l.number l.mask) l.values
