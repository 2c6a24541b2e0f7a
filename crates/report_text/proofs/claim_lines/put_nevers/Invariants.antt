use Rattle.std.proofs.Common.{◌≡◌, ◌++◌, drop}
use Rattle.report_words.specs.Words.{lines_text}
use Rattle.report_text.specs.Lines.{paired, never_line}
use Rattle.report_text.proofs.claim_lines.put_nevers.Given as goal

abbrev pub invariant-loop-i : goal.invariant-loop-i
invariant-loop-i l = l.text.items ++ lines_text (paired never_line (drop l.i l.claims) (drop l.i l.by)) ≡ l.initial.text.items ++ lines_text (paired never_line l.claims l.by)
