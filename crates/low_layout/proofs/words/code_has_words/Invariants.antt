use Rattle.std.proofs.Common.{ℕ, ◌<◌, get_or}
use Rattle.low_ir.specs.declared.instruction.Instr.{Instr}
use Rattle.low_layout.specs.Words.{InstrHasWords}
use Rattle.low_layout.proofs.words.code_has_words.Given as goal

abbrev pub invariant-loop-i : goal.invariant-loop-i
invariant-loop-i l = (k : ℕ) (d : Instr) → k < l.i → InstrHasWords (get_or l.code k d)
