use Rattle.std.proofs.Common.{arith}
use Rattle.types_declaration.proofs.ParamRows.{declared_walk}
use Rattle.types_declaration.proofs.Rows.{all_after, all_faults, one_more}
use Rattle.types_declaration.proofs.params.declare_params.Goals as goal

pub loop-source-preserved : goal.loop-source-preserved
loop-source-preserved c =
    let found = c.in_ok-found.ensures in
    rw c.first_of-fault.ensures
    (one_more declared_walk c.args.given.now c.args.table.now c.loop-source.source-index c.source-item.result c.loop-source.table c.declare_param.new.table c.loop-source.fault c.in_ok-found.found (omega (arith, c.loop-source-test.true)) c.source-item.is c.loop-source.invariant found.after found.fault)

pub returns-clause-fault : goal.returns-clause-fault
returns-clause-fault c = all_faults declared_walk c.args.given.now c.args.table.now c.loop-source.source-index c.loop-source.table c.loop-source.fault (omega (arith, c.loop-source-test.false)) c.loop-source.invariant

pub returns-clause-after : goal.returns-clause-after
returns-clause-after c = all_after declared_walk c.args.given.now c.args.table.now c.loop-source.source-index c.loop-source.table c.loop-source.fault (omega (arith, c.loop-source-test.false)) c.loop-source.invariant
