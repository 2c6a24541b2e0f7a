use Rattle.std.proofs.Common.{arith}
use Rattle.call_graph.proofs.Progress.{ranking_step, ranking_end}
use Rattle.call_graph.proofs.ranking.rank_all.Goals as goal

pub loop-f-preserved : goal.loop-f-preserved
loop-f-preserved c = rw c.in-Ok-keep.ensures (ranking_step c.args.graph.now c.loop-f.f c.in-Ok.rank c.loop-f.marks c.visit.new.marks c.loop-f.ranks.items c.loop-f.invariant c.in-Ok.ensures.0 c.in-Ok.ensures.1)

pub returns-clause-ok : goal.returns-clause-ok
returns-clause-ok c = ranking_end c.args.graph.now c.loop-f.f c.loop-f.marks c.loop-f.ranks.items c.requires.range c.loop-f-test.false (omega arith) c.loop-f.invariant
