use Rattle.pass_dataflow_transfer.proofs.Tables.{true_at}
use Rattle.pass_dataflow_transfer.proofs.reading.origin_of.Goals as goal

pub returns-in-Some : goal.returns-in-Some
returns-in-Some c = λ s known. c.in-Some.ensures s (true_at s c.args.facts.now c.loop-fact.fact-index _ c.loop-fact-test.true known)
