use Rattle.std.proofs.Common.{◌≡◌, ◌++◌, drop, map}
use Rattle.low_ir.specs.View.{instr_of}
use Rattle.pass_constant_hoisting.specs.Holding.{held_instr}
use Rattle.pass_constant_hoisting.proofs.holding.add_code.Given as goal

abbrev pub invariant-loop-instr : goal.invariant-loop-instr
invariant-loop-instr l = map instr_of l.all.items ++ map (held_instr l.first l.words) (map instr_of (drop l.instr-index l.code)) ≡ map instr_of l.initial.all.items ++ map (held_instr l.first l.words) (map instr_of l.code)
