use Rattle.std.proofs.Common.{sym, subst}
use Rattle.rv_core.specs.Table.{table_of}
use Rattle.report_shares.specs.Shares.{IsProper}
use Rattle.report_shares.specs.Faults.{unequal}
use Rattle.report_shares.proofs.FaultLemmas.{first_stop, first_go, first_end}
use Rattle.report_shares.proofs.faults.first_unequal.Goals as goal

pub is_sum-requires-clause-share : goal.is_sum-requires-clause-share
is_sum-requires-clause-share c = subst IsProper (sym c.index-shares-i.is) (c.requires.shares c.loop-i.i c.index-shares-i.result c.loop-i-test.true)

pub returns-then-not-is_sum : goal.returns-then-not-is_sum
returns-then-not-is_sum c =
    first_stop (table_of c.args.costs.now) c.args.system.now c.args.flow.now.parts c.args.shares.now c.loop-i.i c.index-shares-i.result c.is_sum.result c.index-shares-i-then-not-is_sum.result
    c.loop-i-test.true c.index-shares-i.is c.is_sum.ensures c.if-not-is_sum.true c.loop-i.invariant

pub loop-i-preserved : goal.loop-i-preserved
loop-i-preserved c =
    first_go (table_of c.args.costs.now) c.args.system.now c.args.flow.now.parts c.args.shares.now c.loop-i.i c.index-shares-i.result c.is_sum.result
    c.loop-i-test.true c.index-shares-i.is c.is_sum.ensures c.if-not-is_sum.false c.loop-i.invariant

pub returns : goal.returns
returns c = first_end (unequal (table_of c.args.costs.now) c.args.system.now c.args.flow.now.parts) c.args.shares.now c.loop-i.i c.loop-i-test.false c.loop-i.invariant
