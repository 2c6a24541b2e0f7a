use Rattle.std.proofs.Common.{ℕ, ◌<◌, get_or}
use Rattle.low_ir.specs.declared.low.Function.{Function}
use Rattle.low_layout.specs.Words.{FunctionHasWords}
use Rattle.low_layout.proofs.words.functions_have_words.Given as goal

abbrev pub invariant-loop-i : goal.invariant-loop-i
invariant-loop-i l = (k : ℕ) (d : Function) → k < l.i → FunctionHasWords (get_or l.functions k d)
