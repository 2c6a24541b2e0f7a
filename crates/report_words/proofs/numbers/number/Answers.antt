use Rattle.report_words.proofs.ScanLemmas.{read_more, read_end}
use Rattle.report_words.proofs.numbers.number.Goals as goal

pub loop-byte-preserved : goal.loop-byte-preserved
loop-byte-preserved c = read_more _ _ _ _ c.loop-byte-test.true c.loop-byte.invariant c.extended-number.ensures

pub returns : goal.returns
returns c = read_end _ _ _ c.loop-byte-test.false c.loop-byte.invariant
