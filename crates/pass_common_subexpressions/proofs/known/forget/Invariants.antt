use Rattle.std.proofs.Common.{map}
use Rattle.low_ir.specs.View.{claim_of, instr_of}
use Rattle.pass_common_subexpressions.proofs.Table.{Forgets}
use Rattle.pass_common_subexpressions.proofs.known.forget.Given as goal

abbrev pub invariant-loop-at : goal.invariant-loop-at
invariant-loop-at l = Forgets (map claim_of l.claims) (instr_of l.instr) l.initial.facts.items l.facts.items l.at
