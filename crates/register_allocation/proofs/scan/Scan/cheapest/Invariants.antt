use Rattle.std.proofs.Common.{◌<◌}
use Rattle.std.specs.Prelude.{IfSome}
use Rattle.low_ir.specs.Places.{machine_registers}
use Rattle.register_allocation.proofs.scan.Scan.cheapest.Given as goal

abbrev pub invariant-loop-machine : goal.invariant-loop-machine
invariant-loop-machine l = IfSome l.cheapest (λ q. q < machine_registers)
