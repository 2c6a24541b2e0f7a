use Rattle.std.proofs.Common.{rules, FitsSigned, ◌-◌, ◌*◌, ◌∙◌, sym, ap, subst, ℕ, ℤ, List, Option, IfSome, length, take, drop}
use mir.Val.{to_z, of_z}
use Rattle.std.specs.Int.{w128}
use Rattle.std.proofs.lemmas.Int.{to_z-of_z}
use Rattle.loop_walks.specs.Turns.{way_at, turn_ways, gain}
use Rattle.loop_flows.specs.Passes.{spread}
use Rattle.loop_flows.specs.Flows.{together, only_at}
use Rattle.loop_flows.specs.Turns.{is_turn, further_turns, turning_of}
use Rattle.loop_worths.specs.Sizes.{IsSmall}
use Rattle.loop_worths.proofs.CodeLemmas.{gain_from, small_way}
use Rattle.loop_flow_counts.specs.Wraps.{wrapped, SameCounts}
use Rattle.loop_flow_counts.specs.Made.{total}
use Rattle.loop_flow_counts.proofs.TurnLemmas.{departed_header, has_turned}
use Rattle.loop_flow_counts.proofs.turns.turn_along.Goals as goal

pub gain_by-gain-requires-clause-way : goal.gain_by-gain-requires-clause-way
gain_by-gain-requires-clause-way c = subst (λ (o : Option ℤ). IfSome o IsSmall) (sym c.way_at.ensures) (small_way c.args.weighed.low c.args.weighed.weights.now c.args.ring c.args.weighed.steps.now c.args.ways.now c.requires.all c.requires.small)

pub turn_pass-requires-clause-ways : goal.turn_pass-requires-clause-ways
turn_pass-requires-clause-ways c = λ a. subst (λ (ts : List (Option ℤ)). IfSome (way_at ts a) IsSmall) (sym c.requires.all) (c.requires.small.turns.ways 0 a)

pub returns : goal.returns
returns c =
    let low = c.args.weighed.low in
    let low' = to_z w128 (of_z w128 c.args.weighed.low) in
    let e = to_z-of_z w128 c.args.weighed.low (search rules) in
    let weights = c.args.weighed.weights.now in
    let ring = c.args.ring in
    let ms = c.args.weighed.steps.now in
    let old = c.args.counts.now in
    let new = c.turn_pass.new.counts in
    let n = length weights - 1 in
    let count = c.times-count.result in
    let f : FitsSigned w128 c.gain_by-gain.result = search rules in
    let p : FitsSigned w128 ring.price = search rules in
    let gains = gain_from weights ring ms low low' (to_z w128 (of_z w128 ring.price)) c.gain_by-gain.result (to_z w128 (of_z w128 c.gain_by-gain.result)) c.way_at.result
    (to_z-of_z w128 c.gain_by-gain.result f) c.gain_by-gain.ensures e (to_z-of_z w128 ring.price p)
    (c.way_at.ensures ∙ (ap (λ (ts : List (Option ℤ)). way_at ts 0) c.requires.all ∙ ap (λ (z : ℤ). way_at (turn_ways z weights ring ms) 0) (sym e))) in
    let heads = total (take (ring.body - ring.head) (drop ring.head old)) in
    let counted =
    c.times-count.ensures
    ∙ (ap (λ (k : ℕ). wrapped (k * heads)) (c.further_turns.ensures ∙ ap (λ (z : ℤ). further_turns ring z) gains)
    ∙ ap (λ (k : ℕ). wrapped (further_turns ring (gain low weights ring ms) * k)) (sym (departed_header n ms ring old c.requires.ring c.requires.counts))) in
    has_turned n ms old new (turning_of low weights ring ms (turn_ways low weights ring ms) c.args.back) count counted
    (subst (λ (ts : List (Option ℤ)). SameCounts new (together old (spread (is_turn low weights ring ts) (only_at n ring.header count) ms))) c.requires.all c.turn_pass.ensures)
