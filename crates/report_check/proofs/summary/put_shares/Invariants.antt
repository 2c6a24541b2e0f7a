use Rattle.std.proofs.Common.{◌≡◌, ◌++◌, map, drop}
use Rattle.report_words.specs.Words.{lines_text}
use Rattle.report_check.specs.Summaries.{share_line}
use Rattle.report_check.proofs.summary.put_shares.Given as goal

abbrev pub invariant-loop-share : goal.invariant-loop-share
invariant-loop-share l = l.text.items ++ lines_text (map (share_line l.unit) (drop l.share-index l.shares)) ≡ l.initial.text.items ++ lines_text (map (share_line l.unit) l.shares)
