use Rattle.std.proofs.Common.{rules, ◌≡◌, ◌∙◌, sym, ap, subst, ℤ, length}
use mir.Val.{to_z, of_z}
use Rattle.std.specs.Int.{w128}
use Rattle.std.proofs.lemmas.Int.{to_z-of_z}
use Rattle.std.proofs.lemmas.Result.{IfOk-weaker}
use Rattle.rv_core.specs.Table.{table_of}
use Rattle.loop_walks.specs.Levels.{level_of}
use Rattle.path_places.specs.Duals.{final_level, final_pairs}
use Rattle.path_places.specs.Driver.{blank}
use Rattle.path_walks.specs.declared.walks.Settled.{Settled}
use Rattle.path_walks.specs.Prices.{price_in, prices_of}
use Rattle.path_walks.specs.Sizes.{AllStaySmall}
use Rattle.path_cert.specs.Priced.{fact_price, fact_prices}
use Rattle.path_values.proofs.SameLemmas.{values_same, small_same, price_is}
use Rattle.path_fact_walks.proofs.walking.settle_facts.Goals as goal

pub settle_all-requires-clause-small : goal.settle_all-requires-clause-small
settle_all-requires-clause-small c =
    let s = c.args.multiplied.system.now in
    let ls = c.args.multiplied.shapes.now in
    let t = table_of c.args.multiplied.costs.now in
    let n = c.args.multiplied.scale in
    let ys = c.args.multiplied.facts.now in
    let low = to_z w128 (of_z w128 c.args.multiplied.low) in
    let zs = c.deref.result.now in
    small_same s ls (price_in s.moves zs) (fact_price t s n ys) low (price_is s.moves zs (fact_price t s n ys) c.requires.whole.system.ascending (c.deref.ensures.value ∙ c.in_ok-prices.ensures)) (blank (length s.moves) low) c.args.spans.now
    (subst (λ (z : ℤ). AllStaySmall s ls (fact_prices t s n ys z) (blank (length s.moves) z) c.args.spans.now) (sym (to_z-of_z w128 c.args.multiplied.low (search rules))) c.requires.small)

pub returns-clause-level : goal.returns-clause-level
returns-clause-level c =
    let s = c.args.multiplied.system.now in
    let ls = c.args.multiplied.shapes.now in
    let ps = c.args.spans.now in
    let t = table_of c.args.multiplied.costs.now in
    let n = c.args.multiplied.scale in
    let ys = c.args.multiplied.facts.now in
    let low = to_z w128 (of_z w128 c.args.multiplied.low) in
    let zs = c.deref.result.now in
    let same = values_same s ls (price_in s.moves zs) (fact_price t s n ys) low (price_is s.moves zs (fact_price t s n ys) c.requires.whole.system.ascending (c.deref.ensures.value ∙ c.in_ok-prices.ensures)) ps in
    let e = same.0 ∙ ap (λ (z : ℤ). final_level s ls ps (fact_prices t s n ys z)) (to_z-of_z w128 c.args.multiplied.low (search rules)) in
    IfOk-weaker c.settle_all.result (λ (r : Settled). level_of r.worths r.weights ≡ final_level s ls ps (prices_of s zs low)) (λ (r : Settled). level_of r.worths r.weights ≡ final_level s ls ps (fact_prices t s n ys c.args.multiplied.low)) (λ r h. h ∙ e) c.settle_all.ensures.level

pub returns-clause-pairs : goal.returns-clause-pairs
returns-clause-pairs c =
    let s = c.args.multiplied.system.now in
    let ls = c.args.multiplied.shapes.now in
    let ps = c.args.spans.now in
    let t = table_of c.args.multiplied.costs.now in
    let n = c.args.multiplied.scale in
    let ys = c.args.multiplied.facts.now in
    let low = to_z w128 (of_z w128 c.args.multiplied.low) in
    let zs = c.deref.result.now in
    let same = values_same s ls (price_in s.moves zs) (fact_price t s n ys) low (price_is s.moves zs (fact_price t s n ys) c.requires.whole.system.ascending (c.deref.ensures.value ∙ c.in_ok-prices.ensures)) ps in
    let e = same.1 ∙ ap (λ (z : ℤ). final_pairs s ls ps (fact_prices t s n ys z)) (to_z-of_z w128 c.args.multiplied.low (search rules)) in
    IfOk-weaker c.settle_all.result (λ (r : Settled). r.pairs ≡ final_pairs s ls ps (prices_of s zs low)) (λ (r : Settled). r.pairs ≡ final_pairs s ls ps (fact_prices t s n ys c.args.multiplied.low)) (λ r h. h ∙ e) c.settle_all.ensures.pairs
