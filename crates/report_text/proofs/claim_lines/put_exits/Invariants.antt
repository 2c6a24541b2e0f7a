use Rattle.std.proofs.Common.{◌≡◌, ◌++◌, map, drop}
use Rattle.report_words.specs.Words.{lines_text}
use Rattle.report_text.specs.Lines.{exit_line}
use Rattle.report_text.proofs.claim_lines.put_exits.Given as goal

abbrev pub invariant-loop-at : goal.invariant-loop-at
invariant-loop-at l = l.text.items ++ lines_text (map exit_line (drop l.at-index l.exits)) ≡ l.initial.text.items ++ lines_text (map exit_line l.exits)
