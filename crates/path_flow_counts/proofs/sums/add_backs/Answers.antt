use Rattle.std.proofs.Common.{arith}
use Rattle.path_flow_counts.specs.Sums.{backed}
use Rattle.path_flow_counts.proofs.SumLemmas.{backs_next, backs_end}
use Rattle.path_flow_counts.proofs.sums.add_backs.Goals as goal

pub loop-k-preserved : goal.loop-k-preserved
loop-k-preserved c = backs_next c.args.backs.now c.loop-k.k (record { place = 0; count = 0 }) c.loop-k.amounts c.add.new.counts (backed c.args.backs.now c.args.amounts.now) c.loop-k-test.true c.loop-k.invariant c.add.ensures

pub returns : goal.returns
returns c = let f = c.loop-k-test.false in backs_end c.args.backs.now c.loop-k.k c.loop-k.amounts (backed c.args.backs.now c.args.amounts.now) (omega (arith, f)) c.loop-k.invariant
