use Rattle.std.proofs.Common.{arith, ◌≡◌, ◌<◌, ◌^◌, ◌∙◌, sym, ap, subst, ℕ, List, length, All, Vec, Global}
use Rattle.std.proofs.Math.ListN.{replicate}
use Rattle.std.proofs.lemmas.Result.{IfOk-weaker}
use Rattle.std.proofs.lemmas.List.{length-replicate}
use Rattle.code_flow_system.specs.declared.cert.Part.{Part}
use Rattle.code_flow_system.specs.declared.moves.Move.{Move}
use Rattle.loop_flow_counts.specs.Wraps.{all_wrapped}
use Rattle.path_flows.specs.Flows.{amounts_of, parts_of}
use Rattle.path_walks.specs.Prices.{prices_of}
use Rattle.path_flow_counts.proofs.FlowLemmas.{wraps_not}
use Rattle.path_flow_counts.proofs.system.list_flow.Goals as goal

pub parts-requires-clause-long : goal.parts-requires-clause-long
parts-requires-clause-long c =
    let a = c.in_ok-add_functions.ensures.amounts in
    let b = ap (λ f. length f.amounts) c.requires.flow in
    let n = length c.args.priced.system.now.moves in
    let d : length (replicate {A = ℕ} n 0) ≡ n = length-replicate n 0 in
    let e = ap length c.moves.ensures.value in
    omega (arith, a, b, d, e)

pub parts-requires-clause-fits : goal.parts-requires-clause-fits
parts-requires-clause-fits c =
    let s = c.args.priced.system.now in
    let us = amounts_of s c.args.priced.shapes.now c.args.spans.now (prices_of s c.args.priced.prices.now c.args.priced.low) in
    subst (All (λ u. u < 2 ^ 127)) (sym (c.in_ok-add_functions.ensures.flow ∙ wraps_not us c.requires.fits)) c.requires.fits

pub returns : goal.returns
returns c =
    let s = c.args.priced.system.now in
    let us = amounts_of s c.args.priced.shapes.now c.args.spans.now (prices_of s c.args.priced.prices.now c.args.priced.low) in
    let e = c.in_ok-add_functions.ensures.flow ∙ wraps_not us c.requires.fits in
    IfOk-weaker c.parts.result (λ (v : Vec Part Global). v.items ≡ parts_of c.moves.result.now (all_wrapped c.add_functions.new.tally.amounts.now)) (λ (v : Vec Part Global). v.items ≡ parts_of s.moves us)
    (λ v h. h ∙ (ap (λ (ms : List Move). parts_of ms (all_wrapped c.add_functions.new.tally.amounts.now)) c.moves.ensures.value ∙ ap (λ (xs : List ℕ). parts_of s.moves xs) e)) c.parts.ensures
