use Rattle.std.proofs.Common.{◌≡◌, ◌+◌, drop, map}
use Rattle.low_ir.specs.View.{instr_of}
use Rattle.claims_movables.specs.Near.{code_near}
use Rattle.claims_movables.proofs.near.code_near.Given as goal

abbrev pub invariant-loop-instr : goal.invariant-loop-instr
invariant-loop-instr l = l.count + code_near l.memory (map instr_of (drop l.instr-index l.code)) ≡ code_near l.memory (map instr_of l.code)
