use Rattle.std.proofs.Common.{◌≡◌, ◌+◌, drop, map}
use Rattle.std.specs.Prelude.{sum_by}
use Rattle.low_ir.specs.Room.{instr_room}
use Rattle.low_ir.specs.View.{instr_of}
use Rattle.image_fitting.proofs.code.spend_code.Given as goal

abbrev pub invariant-loop-each : goal.invariant-loop-each
invariant-loop-each l = l.from + sum_by instr_room (map instr_of (drop l.each-index l.code)) ≡ l.left + sum_by instr_room (map instr_of l.code)
