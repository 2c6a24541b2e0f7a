use Rattle.std.proofs.Common.{drop, map}
use Rattle.low_ir.specs.View.{claim_of, instr_of}
use Rattle.pass_common_subexpressions.specs.Making.{IsMade}
use Rattle.pass_common_subexpressions.proofs.making.code_behind.Given as goal

abbrev pub invariant-loop-instr : goal.invariant-loop-instr
invariant-loop-instr l = IsMade (map claim_of l.claims) l.initial.known (map instr_of l.code) (map instr_of (drop l.instr-index l.code)) l.known (map instr_of l.made.items)
