use Rattle.std.proofs.Common.{subst, sym, arith}
use Rattle.rv_core.specs.Table.{table_of}
use Rattle.code_flow_system.specs.Systems.{IsPlaced}
use Rattle.report_shares.proofs.SpentLemmas.{spent_step, spent_past, overspent}
use Rattle.report_shares.proofs.FaultLemmas.{none_is}
use Rattle.report_shares.proofs.sums.spent.Goals as goal

pub move_cost-cost-requires : goal.move_cost-cost-requires
move_cost-cost-requires c = subst (λ m. IsPlaced m.at) (sym c.index-moves-i.is) (c.requires.placed c.loop-i.i c.index-moves-i.result c.loop-i-test.true)

pub returns-in_err-all-clause-none : goal.returns-in_err-all-clause-none
returns-in_err-all-clause-none c =
    let step = spent_step (table_of c.args.costs.now) c.args.system.now c.args.flow.now.parts c.args.moves.now c.loop-i.i c.index-moves-i.result c.number_of.result c.move_cost-cost.result c.index-moves-i.is c.loop-i-test.true c.number_of.ensures c.move_cost-cost.ensures.value in
    ((λ _. overspent _ _ _ _ _ step c.loop-i.invariant.total (c.add_product.ensures.none.0 (none_is _ c.in_err-all.was))), (λ _. none_is _ c.from_residual.ensures))

pub loop-i-preserved : goal.loop-i-preserved
loop-i-preserved c =
    let step = spent_step (table_of c.args.costs.now) c.args.system.now c.args.flow.now.parts c.args.moves.now c.loop-i.i c.index-moves-i.result c.number_of.result c.move_cost-cost.result c.index-moves-i.is c.loop-i-test.true c.number_of.ensures c.move_cost-cost.ensures.value in
    let before = c.loop-i.invariant.total in
    let value = c.in_ok-all.ensures.value in
    record { total = omega arith; small = c.in_ok-all.ensures.small }

pub returns-clause-none : goal.returns-clause-none
returns-clause-none c =
    let past = spent_past (table_of c.args.costs.now) c.args.system.now c.args.flow.now.parts c.args.moves.now c.loop-i.i c.loop-i-test.false in
    let all = c.loop-i.invariant.total in
    let small = c.loop-i.invariant.small in
    ((λ e. cc), (λ h. absurd (omega arith)))

pub returns-clause-value : goal.returns-clause-value
returns-clause-value c =
    let past = spent_past (table_of c.args.costs.now) c.args.system.now c.args.flow.now.parts c.args.moves.now c.loop-i.i c.loop-i-test.false in
    let all = c.loop-i.invariant.total in omega arith
