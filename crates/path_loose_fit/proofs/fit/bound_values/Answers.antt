use Rattle.std.proofs.Common.{rules, ◌∙◌, sym, ap, subst, FitsSigned}
use Rattle.std.specs.Int.{w128}
use Rattle.std.proofs.lemmas.Int.{to_z-of_z}
use Rattle.rv_core.specs.Table.{table_of}
use Rattle.code_flow_system.specs.declared.claims.LoopClaim.{LoopClaim}
use Rattle.code_flow_system.specs.Claims.{Claims}
use Rattle.frac128.specs.Terms.{coefficient}
use Rattle.loop_prices.specs.LoopPrices.{starts}
use Rattle.path_walks.specs.Opens.{AddressesRise}
use Rattle.path_walks.proofs.SoundLemmas.{loops_rise}
use Rattle.path_loose_fit.proofs.FitLemmas.{values_below, same_below}
use Rattle.path_loose_fit.proofs.fit.bound_values.Goals as goal

pub starts-requires-clause-rises : goal.starts-requires-clause-rises
starts-requires-clause-rises c = subst (λ cs. AddressesRise (λ (x : LoopClaim). x.header) cs) (sym (c.loops-loops.ensures.value ∙ ap (λ (x : Claims). x.loops) c.claims.ensures)) (loops_rise c.args.system.now.claims c.is_system.ensures.sound)

pub returns : goal.returns
returns c so =
    let f1 : FitsSigned w128 c.worth_of.result = search rules in
    let f2 : FitsSigned w128 c.starts.result = search rules in
    let worth = to_z-of_z w128 c.worth_of.result f1 ∙ (c.worth_of.ensures.value ∙ ap (λ a. coefficient c.args.places.now a) c.entry-entry.ensures) in
    let from = to_z-of_z w128 c.starts.result f2 ∙ (c.starts.ensures.value ∙ (ap (λ a. starts c.loops-loops.result.now c.args.turns.now a) c.entry-entry.ensures ∙ ap (λ cs. starts cs c.args.turns.now c.args.system.now.entry) (c.loops-loops.ensures.value ∙ ap (λ (x : Claims). x.loops) c.claims.ensures))) in
    values_below c.args.most (table_of c.args.costs.now) c.args.system.now c.args.places.now c.args.turns.now c.loose_flows_are_bounded.ensures (c.are_worths.ensures.0 (search rules)) (c.are_paid.ensures.0 (search rules))
    (same_below c.args.most _ _ _ _ worth from (c.is_below.ensures.0 so))
