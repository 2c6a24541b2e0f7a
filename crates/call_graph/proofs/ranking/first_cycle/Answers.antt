use Rattle.std.proofs.Common.{arith}
use Rattle.call_graph.proofs.ranking.first_cycle.Goals as goal

pub returns : goal.returns
returns c = c.recursion-2.ensures c.args.graph.now (record { reaches = c.requires.cycle; first = λ g l. c.loop-f.invariant g (omega (arith, l, c.requires.within, c.loop-f-test.false)) })
