use Rattle.std.proofs.Common.{◌≤◌, ◌<◌, ℕ, length, map}
use Rattle.pass_register_promotion_law.specs.Paying.{spare_registers}
use Rattle.pass_register_promotion_law.specs.Promoting.{residents_at}
use Rattle.pass_register_promotion.specs.Residents.{of_function}
use Rattle.pass_register_promotion.proofs.program.are_few.Given as goal

abbrev pub invariant-loop-own : goal.invariant-loop-own
invariant-loop-own l = (f : ℕ) → f < l.own-index → length (residents_at (map of_function l.residents) f) ≤ spare_registers
