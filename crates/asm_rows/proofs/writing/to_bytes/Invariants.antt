use Rattle.std.proofs.Common.{◌≡◌, ◌++◌, drop}
use Rattle.rv_core.specs.Bytes.{le_words}
use Rattle.asm_rows.proofs.writing.to_bytes.Given as goal

abbrev pub invariant-loop-word : goal.invariant-loop-word
invariant-loop-word l = l.bytes.items ++ le_words (drop l.word-index l.words) ≡ le_words l.words
