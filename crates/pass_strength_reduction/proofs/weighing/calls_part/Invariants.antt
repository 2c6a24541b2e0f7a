use Rattle.std.proofs.Common.{◌≡◌, ◌+◌, drop, map}
use Rattle.low_ir.specs.Room.{called}
use Rattle.low_ir.specs.View.{instr_of}
use Rattle.pass_strength_reduction.specs.Weighing.{worth_in}
use Rattle.pass_strength_reduction.proofs.weighing.calls_part.Given as goal

abbrev pub invariant-loop-instr : goal.invariant-loop-instr
invariant-loop-instr l = l.total + called (worth_in l.worths) (map instr_of (drop l.instr-index l.code)) ≡ l.beside + called (worth_in l.worths) (map instr_of l.code)
