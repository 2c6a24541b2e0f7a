use borrow.Author.Tests.{ne_eqb}
use Rattle.report_words.proofs.ScanLemmas.{lacks_more}
use Rattle.report_words.proofs.lines.length_before.Goals as goal

pub loop-i-preserved : goal.loop-i-preserved
loop-i-preserved c = lacks_more _ _ _ c.loop-i-test.true (ne_eqb _ _ c.if-byte-stop.false) c.loop-i.invariant
