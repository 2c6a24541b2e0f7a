use Rattle.std.proofs.Common.{rules, ◌≡◌, ◌<◌, ◌^◌, ◌∙◌, sym, ap, subst, ℤ, length, All, Vec, Global}
use mir.Val.{to_z, of_z}
use Rattle.std.specs.Int.{w128}
use Rattle.std.proofs.lemmas.Int.{to_z-of_z}
use Rattle.std.proofs.lemmas.Result.{IfOk-weaker}
use Rattle.rv_core.specs.Table.{table_of}
use Rattle.code_flow_system.specs.declared.cert.Part.{Part}
use Rattle.path_places.specs.Duals.{final_level}
use Rattle.path_flows.specs.Flows.{amounts_of, parts_of}
use Rattle.path_places.specs.Driver.{blank}
use Rattle.path_walks.specs.Prices.{price_in, prices_of}
use Rattle.path_walks.specs.Sizes.{AllStaySmall}
use Rattle.path_cert.specs.Priced.{fact_price, fact_prices}
use Rattle.path_values.proofs.SameLemmas.{values_same, small_same, price_is}
use Rattle.path_flow_counts.proofs.CostLemmas.{amounts_same}
use Rattle.path_fact_walks.proofs.listing.fact_flow.Goals as goal

pub flow-requires-clause-small : goal.flow-requires-clause-small
flow-requires-clause-small c =
    let s = c.args.multiplied.system.now in
    let ls = c.args.multiplied.shapes.now in
    let t = table_of c.args.multiplied.costs.now in
    let n = c.args.multiplied.scale in
    let ys = c.args.multiplied.facts.now in
    let low = to_z w128 (of_z w128 c.args.multiplied.low) in
    let zs = c.deref.result.now in
    small_same s ls (price_in s.moves zs) (fact_price t s n ys) low (price_is s.moves zs (fact_price t s n ys) c.requires.whole.system.ascending (c.deref.ensures.value ∙ c.in_ok-prices.ensures)) (blank (length s.moves) low) c.args.spans.now
    (subst (λ (z : ℤ). AllStaySmall s ls (fact_prices t s n ys z) (blank (length s.moves) z) c.args.spans.now) (sym (to_z-of_z w128 c.args.multiplied.low (search rules))) c.requires.small)

pub flow-requires-clause-level : goal.flow-requires-clause-level
flow-requires-clause-level c =
    let s = c.args.multiplied.system.now in
    let ls = c.args.multiplied.shapes.now in
    let ps = c.args.spans.now in
    let t = table_of c.args.multiplied.costs.now in
    let n = c.args.multiplied.scale in
    let ys = c.args.multiplied.facts.now in
    let low = to_z w128 (of_z w128 c.args.multiplied.low) in
    let zs = c.deref.result.now in
    let same = values_same s ls (price_in s.moves zs) (fact_price t s n ys) low (price_is s.moves zs (fact_price t s n ys) c.requires.whole.system.ascending (c.deref.ensures.value ∙ c.in_ok-prices.ensures)) ps in
    c.requires.level ∙ sym (same.0 ∙ ap (λ (z : ℤ). final_level s ls ps (fact_prices t s n ys z)) (to_z-of_z w128 c.args.multiplied.low (search rules)))

pub flow-requires-clause-fits : goal.flow-requires-clause-fits
flow-requires-clause-fits c =
    let s = c.args.multiplied.system.now in
    let ls = c.args.multiplied.shapes.now in
    let ps = c.args.spans.now in
    let t = table_of c.args.multiplied.costs.now in
    let n = c.args.multiplied.scale in
    let ys = c.args.multiplied.facts.now in
    let low = to_z w128 (of_z w128 c.args.multiplied.low) in
    let zs = c.deref.result.now in
    let same = amounts_same s ls (price_in s.moves zs) (fact_price t s n ys) low (price_is s.moves zs (fact_price t s n ys) c.requires.whole.system.ascending (c.deref.ensures.value ∙ c.in_ok-prices.ensures)) ps in
    subst (All (λ u. u < 2 ^ 127)) (sym (same ∙ ap (λ (z : ℤ). amounts_of s ls ps (fact_prices t s n ys z)) (to_z-of_z w128 c.args.multiplied.low (search rules)))) c.requires.amounts

pub returns : goal.returns
returns c =
    let s = c.args.multiplied.system.now in
    let ls = c.args.multiplied.shapes.now in
    let ps = c.args.spans.now in
    let t = table_of c.args.multiplied.costs.now in
    let n = c.args.multiplied.scale in
    let ys = c.args.multiplied.facts.now in
    let low = to_z w128 (of_z w128 c.args.multiplied.low) in
    let zs = c.deref.result.now in
    let same = amounts_same s ls (price_in s.moves zs) (fact_price t s n ys) low (price_is s.moves zs (fact_price t s n ys) c.requires.whole.system.ascending (c.deref.ensures.value ∙ c.in_ok-prices.ensures)) ps in
    let e = same ∙ ap (λ (z : ℤ). amounts_of s ls ps (fact_prices t s n ys z)) (to_z-of_z w128 c.args.multiplied.low (search rules)) in
    IfOk-weaker c.flow.result (λ (v : Vec Part Global). v.items ≡ parts_of s.moves (amounts_of s ls ps (prices_of s zs low))) (λ (v : Vec Part Global). v.items ≡ parts_of s.moves (amounts_of s ls ps (fact_prices t s n ys c.args.multiplied.low))) (λ v h. h ∙ ap (λ us. parts_of s.moves us) e) c.flow.ensures
