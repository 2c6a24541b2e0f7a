use Rattle.std.proofs.Common.{◌≡◌, ◌+◌, drop, map}
use Rattle.std.specs.Prelude.{sum_by}
use Rattle.low_ir.specs.Room.{instr_room}
use Rattle.low_ir.specs.View.{instr_of}
use Rattle.low_parts.proofs.rooms.code_part.Given as goal

abbrev pub invariant-loop-instr : goal.invariant-loop-instr
invariant-loop-instr l = l.total + sum_by instr_room (map instr_of (drop l.instr-index l.code)) ≡ l.beside + sum_by instr_room (map instr_of l.code)
