use Rattle.c_tree.specs.Bytes.{Each, IsNameByte}
use Rattle.c_lexer.proofs.scan.word_end.Given as goal

abbrev pub invariant-loop-end : goal.invariant-loop-end
invariant-loop-end l = Each IsNameByte l.source l.from l.end
