use Rattle.c_tree.specs.Bytes.{Each}
use Rattle.c_lexer.specs.Bytes.{IsOnLine}
use Rattle.c_lexer.proofs.scan.line_end.Given as goal

abbrev pub invariant-loop-end : goal.invariant-loop-end
invariant-loop-end l = Each IsOnLine l.source l.from l.end
