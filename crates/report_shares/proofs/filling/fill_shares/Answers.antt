use Rattle.rv_core.specs.Table.{table_of}
use Rattle.report_shares.specs.Shares.{with_sum}
use Rattle.report_shares.proofs.FillLemmas.{done_next}
use Rattle.report_shares.proofs.filling.fill_shares.Goals as goal

pub loop-i-preserved : goal.loop-i-preserved
loop-i-preserved c =
    done_next (with_sum (table_of c.args.costs.now) c.args.system.now c.args.flow.now.parts) c.args.shares.now c.loop-i.shares c.loop-i.i c.index-shares-i.result c.fill.new.share
    c.loop-i-test.true c.loop-i.invariant c.fill.ensures
