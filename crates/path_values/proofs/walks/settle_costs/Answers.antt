use Rattle.std.proofs.Common.{◌≡◌, ◌∙◌, sym, ap, subst, ℤ, length}
use mir.Val.{to_z, of_z}
use Rattle.std.specs.Int.{w128}
use Rattle.std.proofs.lemmas.Int.{to_z-of_z}
use Rattle.std.proofs.lemmas.Result.{IfOk-weaker}
use Rattle.rv_core.specs.Table.{table_of}
use Rattle.code_flow_system.specs.Flows.{price}
use Rattle.loop_walks.specs.Levels.{level_of}
use Rattle.path_places.specs.Duals.{final_level, final_pairs}
use Rattle.path_places.specs.Driver.{blank}
use Rattle.path_walks.specs.declared.walks.Settled.{Settled}
use Rattle.path_walks.specs.Prices.{price_in, prices_of}
use Rattle.path_walks.specs.Sizes.{AllStaySmall}
use Rattle.path_values.specs.Costs.{costs_at}
use Rattle.path_values.proofs.SameLemmas.{values_same, small_same, price_is}
use Rattle.path_values.proofs.walks.settle_costs.Goals as goal

pub settle_all-requires-clause-small : goal.settle_all-requires-clause-small
settle_all-requires-clause-small c =
    let s = c.args.system.now in
    let ls = c.args.shapes.now in
    let t = table_of c.args.costs.now in
    let low = to_z w128 (of_z w128 c.args.low) in
    let zs = c.deref.result.now in
    small_same s ls (price_in s.moves zs) (price t s) low (price_is s.moves zs (price t s) c.requires.whole.system.ascending (c.deref.ensures.value ∙ c.in_ok-prices.ensures)) (blank (length s.moves) low) c.args.spans.now
    (subst (λ (z : ℤ). AllStaySmall s ls (costs_at t s z) (blank (length s.moves) z) c.args.spans.now) (sym (to_z-of_z w128 c.args.low c.ranges.low)) c.requires.small)

pub returns-clause-level : goal.returns-clause-level
returns-clause-level c =
    let s = c.args.system.now in
    let ls = c.args.shapes.now in
    let ps = c.args.spans.now in
    let t = table_of c.args.costs.now in
    let low = to_z w128 (of_z w128 c.args.low) in
    let zs = c.deref.result.now in
    let same = values_same s ls (price_in s.moves zs) (price t s) low (price_is s.moves zs (price t s) c.requires.whole.system.ascending (c.deref.ensures.value ∙ c.in_ok-prices.ensures)) ps in
    let e = same.0 ∙ ap (λ (z : ℤ). final_level s ls ps (costs_at t s z)) (to_z-of_z w128 c.args.low c.ranges.low) in
    IfOk-weaker c.settle_all.result (λ (r : Settled). level_of r.worths r.weights ≡ final_level s ls ps (prices_of s zs low)) (λ (r : Settled). level_of r.worths r.weights ≡ final_level s ls ps (costs_at t s c.args.low)) (λ r h. h ∙ e) c.settle_all.ensures.level

pub returns-clause-pairs : goal.returns-clause-pairs
returns-clause-pairs c =
    let s = c.args.system.now in
    let ls = c.args.shapes.now in
    let ps = c.args.spans.now in
    let t = table_of c.args.costs.now in
    let low = to_z w128 (of_z w128 c.args.low) in
    let zs = c.deref.result.now in
    let same = values_same s ls (price_in s.moves zs) (price t s) low (price_is s.moves zs (price t s) c.requires.whole.system.ascending (c.deref.ensures.value ∙ c.in_ok-prices.ensures)) ps in
    let e = same.1 ∙ ap (λ (z : ℤ). final_pairs s ls ps (costs_at t s z)) (to_z-of_z w128 c.args.low c.ranges.low) in
    IfOk-weaker c.settle_all.result (λ (r : Settled). r.pairs ≡ final_pairs s ls ps (prices_of s zs low)) (λ (r : Settled). r.pairs ≡ final_pairs s ls ps (costs_at t s c.args.low)) (λ r h. h ∙ e) c.settle_all.ensures.pairs
