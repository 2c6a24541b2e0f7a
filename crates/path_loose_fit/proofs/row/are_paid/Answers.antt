use Rattle.std.proofs.Common.{rules, ◌∙◌, subst}
use Rattle.std.proofs.lemmas.List.{get_or_default}
use Rattle.std.proofs.lemmas.List.Elements.{AllWithin-more}
use Rattle.rv_core.specs.Table.{table_of}
use Rattle.code_flow_system.specs.Flows.{price}
use Rattle.loop_prices.specs.LoopPrices.{IsPaid}
use Rattle.path_loose_fit.specs.Rows.{worths_of}
use Rattle.path_loose_fit.proofs.row.are_paid.Goals as goal

pub loop-i-preserved : goal.loop-i-preserved
loop-i-preserved c = AllWithin-more (IsPaid (price (table_of c.args.costs.now) c.args.system.now) c.args.system.now.claims.loops (worths_of c.args.places.now c.args.turns.now)) c.moves-moves.result.now 0 c.loop-i.i c.loop-i.invariant
    (λ d. subst (IsPaid (price (table_of c.args.costs.now) c.args.system.now) c.args.system.now.claims.loops (worths_of c.args.places.now c.args.turns.now)) (c.index-moves-i.is ∙ get_or_default c.moves-moves.result.now c.loop-i.i c.index-moves-i.result d c.loop-i-test.true) (c.is_paid.ensures.0 (search rules)))
