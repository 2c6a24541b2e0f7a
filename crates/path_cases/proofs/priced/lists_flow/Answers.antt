use Rattle.std.proofs.Common.{◌∙◌, ap, subst, arith, ℤ, pos, ◌≤ℤ◌, List}
use Rattle.std.proofs.lemmas.Int.{ints}
use Rattle.rv_core.specs.Table.{table_of}
use Rattle.code_flow_system.specs.declared.moves.Move.{Move}
use Rattle.loop_walks.specs.Walks.{worth_at}
use Rattle.path_places.specs.Places.{place_of}
use Rattle.path_cases.proofs.PriceLemmas.{walks_small, amounts_small}
use Rattle.path_cases.proofs.priced.lists_flow.Goals as goal

pub settle_all-requires-clause-small : goal.settle_all-requires-clause-small
settle_all-requires-clause-small c =
    walks_small (table_of c.args.costs.now) c.args.system.now c.args.shapes.now c.args.spans.now c.is_boundable.ensures c.priced_flows_are_flows.ensures c.deref.result.now (c.deref.ensures.value ∙ c.in_ok-prices.ensures)

pub flow-requires-clause-small : goal.flow-requires-clause-small
flow-requires-clause-small c =
    walks_small (table_of c.args.costs.now) c.args.system.now c.args.shapes.now c.args.spans.now c.is_boundable.ensures c.priced_flows_are_flows.ensures c.deref.result.now (c.deref.ensures.value ∙ c.in_ok-prices.ensures)

pub flow-requires-clause-fits : goal.flow-requires-clause-fits
flow-requires-clause-fits c =
    amounts_small (table_of c.args.costs.now) c.args.system.now c.args.shapes.now c.args.spans.now c.is_boundable.ensures c.priced_flows_are_flows.ensures c.deref.result.now (c.deref.ensures.value ∙ c.in_ok-prices.ensures)
    _ _ c.place_of-entry.result c.in_ok-settled.ensures.level
    (c.place_of-entry.ensures.value ∙ (ap (λ (ms : List Move). place_of ms c.entry.result) c.moves.ensures.value ∙ ap (place_of c.args.system.now.moves) c.entry.ensures))
    (subst (λ (z : ℤ). pos 0 ≤ℤ z) (c.worth_at-worth.ensures ∙ ap (λ (ws : List ℤ). worth_at ws c.place_of-entry.result) c.as_slice.ensures) (omega (arith, ints, c.if-worth-lt0.false)))
