use Rattle.std.proofs.Common.{◌≡◌, ◌++◌, drop}
use Rattle.rv_core.specs.Bytes.{le_words}
use Rattle.elf_image.proofs.writing.put_words.Given as goal

abbrev pub invariant-loop-word : goal.invariant-loop-word
invariant-loop-word l = l.text.items ++ le_words (drop l.word-index l.words) ≡ l.initial.text.items ++ le_words l.words
