use Rattle.std.proofs.Common.{◌≡◌, ◌++◌, map, drop}
use Rattle.report_words.specs.Words.{lines_text}
use Rattle.report_text.specs.Lines.{share_line}
use Rattle.report_text.proofs.writing.put_shares.Given as goal

abbrev pub invariant-loop-share : goal.invariant-loop-share
invariant-loop-share l = l.text.items ++ lines_text (map share_line (drop l.share-index l.shares)) ≡ l.initial.text.items ++ lines_text (map share_line l.shares)
