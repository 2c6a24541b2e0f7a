use Rattle.std.proofs.Common.{◌≡◌, ◌++◌, drop, map}
use Rattle.low_ir.specs.View.{instr_of}
use Rattle.low_parts.proofs.same.same_code.Given as goal

abbrev pub invariant-loop-instr : goal.invariant-loop-instr
invariant-loop-instr l = map instr_of l.same.items ++ map instr_of (drop l.instr-index l.code) ≡ map instr_of l.code
