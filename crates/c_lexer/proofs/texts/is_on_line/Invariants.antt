use Rattle.c_tree.specs.Bytes.{Each}
use Rattle.c_lexer.specs.Bytes.{IsOnLine}
use Rattle.c_lexer.proofs.texts.is_on_line.Given as goal

abbrev pub invariant-loop-i : goal.invariant-loop-i
invariant-loop-i l = Each IsOnLine l.source l.at l.i
