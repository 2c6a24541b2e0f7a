use Rattle.std.proofs.Common.{rules, ◌∙◌, sym, ap, subst, ◌+ℤ◌, FitsSigned}
use Rattle.std.specs.Int.{w128}
use Rattle.std.proofs.lemmas.Int.{to_z-of_z}
use Rattle.rv_core.specs.Table.{table_of}
use Rattle.code_flow_system.specs.declared.claims.LoopClaim.{LoopClaim}
use Rattle.code_flow_system.specs.Claims.{Claims}
use Rattle.code_flow_system.specs.Flows.{price}
use Rattle.frac128.specs.Terms.{coefficient}
use Rattle.loop_prices.specs.LoopPrices.{turns_at}
use Rattle.path_walks.specs.Opens.{AddressesRise}
use Rattle.path_walks.proofs.SoundLemmas.{loops_rise}
use Rattle.path_loose_fit.specs.Rows.{worths_of, brought}
use Rattle.path_loose_fit.proofs.FitLemmas.{paid_if, if_paid}
use Rattle.path_loose_fit.proofs.row.is_paid.Goals as goal

pub brought-to-requires-clause-rises : goal.brought-to-requires-clause-rises
brought-to-requires-clause-rises c = subst (λ cs. AddressesRise (λ (x : LoopClaim). x.header) cs) (sym (c.loops-loops.ensures.value ∙ ap (λ (x : Claims). x.loops) c.claims.ensures)) (loops_rise c.args.system.now.claims c.is_system.ensures.sound)

pub brought-behind-requires-clause-rises : goal.brought-behind-requires-clause-rises
brought-behind-requires-clause-rises c = subst (λ cs. AddressesRise (λ (x : LoopClaim). x.header) cs) (sym (c.loops-loops.ensures.value ∙ ap (λ (x : Claims). x.loops) c.claims.ensures)) (loops_rise c.args.system.now.claims c.is_system.ensures.sound)

pub held-requires-clause-rises : goal.held-requires-clause-rises
held-requires-clause-rises c = subst (λ cs. AddressesRise (λ (x : LoopClaim). x.header) cs) (sym (c.loops-loops.ensures.value ∙ ap (λ (x : Claims). x.loops) c.claims.ensures)) (loops_rise c.args.system.now.claims c.is_system.ensures.sound)

pub returns : goal.returns
returns c =
    let price = price (table_of c.args.costs.now) c.args.system.now in
    let loops = c.args.system.now.claims.loops in
    let w = worths_of c.args.places.now c.args.turns.now in
    let e = c.loops-loops.ensures.value ∙ ap (λ (x : Claims). x.loops) c.claims.ensures in
    let f1 : FitsSigned w128 c.price-price.result = search rules in
    let f2 : FitsSigned w128 c.brought-to.result = search rules in
    let f3 : FitsSigned w128 c.brought-behind.result = search rules in
    let f4 : FitsSigned w128 c.held.result = search rules in
    let is = to_z-of_z w128 c.price-price.result f1 ∙ c.price-price.ensures.value in
    let to = to_z-of_z w128 c.brought-to.result f2 ∙ (c.brought-to.ensures.value ∙ ap (λ cs. brought cs w c.args.step.now.at c.args.step.now.to) e) in
    let behind = to_z-of_z w128 c.brought-behind.result f3 ∙ (c.brought-behind.ensures.value ∙ ap (λ cs. brought cs w c.args.step.now.at c.args.step.now.behind) e) in
    let here = to_z-of_z w128 c.held.result f4 ∙ (c.held.ensures.value ∙ ap (λ cs. coefficient c.args.places.now c.args.step.now.at +ℤ turns_at cs c.args.turns.now c.args.step.now.at) e) in (
      λ so. paid_if price loops w c.args.step.now _ _ _ _ is to behind here (c.covers.ensures.0 so),
      λ paid. c.covers.ensures.1 (if_paid price loops w c.args.step.now _ _ _ _ is to behind here paid),
    )
