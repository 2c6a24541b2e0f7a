use Rattle.std.proofs.Common.{◌≡◌, drop, map}
use Rattle.low_ir.specs.View.{instr_of}
use Rattle.asm_code.specs.Leaves.{calls_none}
use Rattle.asm_code.proofs.programs.calls_none.Given as goal

abbrev pub invariant-loop-instr : goal.invariant-loop-instr
invariant-loop-instr l = calls_none (map instr_of (drop l.instr-index l.code)) ≡ calls_none (map instr_of l.code)
