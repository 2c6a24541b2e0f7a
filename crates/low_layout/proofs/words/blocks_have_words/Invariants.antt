use Rattle.std.proofs.Common.{ℕ, ◌<◌, get_or}
use Rattle.low_ir.specs.declared.low.Block.{Block}
use Rattle.low_layout.specs.Words.{BlockHasWords}
use Rattle.low_layout.proofs.words.blocks_have_words.Given as goal

abbrev pub invariant-loop-i : goal.invariant-loop-i
invariant-loop-i l = (k : ℕ) (d : Block) → k < l.i → BlockHasWords (get_or l.blocks k d)
