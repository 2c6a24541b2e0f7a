use Rattle.std.proofs.Common.{take}
use Rattle.c_tree.specs.Spelling.{spoken}
use Rattle.parse_words.specs.Words.{Tell}
use Rattle.parse_words.proofs.word.read_words.Given as goal

abbrev pub invariant-loop-i : goal.invariant-loop-i
invariant-loop-i l = Tell l.list.items l.names (spoken (record { source = l.source; list = take l.i l.spans }))
