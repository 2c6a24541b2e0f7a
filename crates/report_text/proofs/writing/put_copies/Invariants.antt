use Rattle.std.proofs.Common.{◌≡◌, ◌++◌, map, drop}
use Rattle.report_words.specs.Words.{lines_text}
use Rattle.report_text.specs.Lines.{copy_line}
use Rattle.report_text.proofs.writing.put_copies.Given as goal

abbrev pub invariant-loop-line : goal.invariant-loop-line
invariant-loop-line l = l.text.items ++ lines_text (map copy_line (drop l.line-index l.lines)) ≡ l.initial.text.items ++ lines_text (map copy_line l.lines)
