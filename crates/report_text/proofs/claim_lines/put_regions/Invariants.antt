use Rattle.std.proofs.Common.{◌≡◌, ◌++◌, map, drop}
use Rattle.report_words.specs.Words.{lines_text}
use Rattle.report_text.specs.Lines.{region_line}
use Rattle.report_text.proofs.claim_lines.put_regions.Given as goal

abbrev pub invariant-loop-claim : goal.invariant-loop-claim
invariant-loop-claim l = l.text.items ++ lines_text (map region_line (drop l.claim-index l.claims)) ≡ l.initial.text.items ++ lines_text (map region_line l.claims)
