use Rattle.std.proofs.Common.{drop, map}
use Rattle.low_ir.specs.View.{instr_of}
use Rattle.pass_jump_threading.specs.Facts.{known_in}
use Rattle.pass_jump_threading.proofs.Knowing.{KnowsSoFar}
use Rattle.pass_jump_threading.proofs.facts.pass_all.Given as goal

abbrev pub invariant-loop-instr : goal.invariant-loop-instr
invariant-loop-instr l = KnowsSoFar (known_in l.held l.initial.facts.items) (map instr_of l.code) (known_in l.held l.facts.items) (map instr_of (drop l.instr-index l.code))
