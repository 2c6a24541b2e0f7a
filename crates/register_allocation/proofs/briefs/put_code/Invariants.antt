use Rattle.std.proofs.Common.{◌≡◌, ◌++◌, drop, map}
use Rattle.low_ir.specs.View.{instr_of}
use Rattle.register_allocation.specs.Briefs.{code_turns}
use Rattle.register_allocation.proofs.briefs.put_code.Given as goal

abbrev pub invariant-loop-instr : goal.invariant-loop-instr
invariant-loop-instr l = l.turns.items ++ code_turns (map instr_of (drop l.instr-index l.code)) ≡ l.initial.turns.items ++ code_turns (map instr_of l.code)
