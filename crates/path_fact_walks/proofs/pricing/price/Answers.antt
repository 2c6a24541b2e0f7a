use Rattle.std.proofs.Common.{rules, ◌∙◌, ◌*◌, ◌-ℤ◌, ap, pos, ℤ, FitsSigned}
use Rattle.std.specs.Int.{w128}
use Rattle.rv_core.specs.Table.{table_of}
use Rattle.code_flow_system.specs.MoveCosts.{move_cost}
use Rattle.path_fact_walks.proofs.SizeLemmas.{price_fits, price_is}
use Rattle.path_fact_walks.proofs.pricing.price.Goals as goal

pub overflow_sub-result : goal.overflow_sub-result
overflow_sub-result c =
    let fh : FitsSigned w128 c.held_at.result = search rules in
    price_fits c.move_cost.result c.args.multiplied.scale c.from.result c.from-2.result c.held_at.result c.from.ensures c.from-2.ensures c.move_cost.ensures.small c.requires.fits.scaled fh c.held_at.ensures.small

pub returns : goal.returns
returns c =
    let fh : FitsSigned w128 c.held_at.result = search rules in
    price_is c.move_cost.result c.args.multiplied.scale c.from.result c.from-2.result c.held_at.result c.from.ensures c.from-2.ensures c.move_cost.ensures.small c.requires.fits.scaled fh c.held_at.ensures.small
    ∙ (ap (λ k. pos (k * c.args.multiplied.scale) -ℤ c.held_at.result) c.move_cost.ensures.value ∙ ap (λ (z : ℤ). pos (move_cost (table_of c.args.multiplied.costs.now) c.args.multiplied.system.now c.args.step.now * c.args.multiplied.scale) -ℤ z) c.held_at.ensures.value)
