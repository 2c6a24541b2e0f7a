use Rattle.c_tree.specs.Bytes.{Each, IsBlankByte}
use Rattle.c_lexer.proofs.scan.blanks_end.Given as goal

abbrev pub invariant-loop-end : goal.invariant-loop-end
invariant-loop-end l = Each IsBlankByte l.source l.from l.end
