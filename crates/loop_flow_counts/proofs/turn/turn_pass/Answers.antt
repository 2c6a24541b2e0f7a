use Rattle.std.proofs.Common.{arith, ◌-◌, sym, subst, ℤ, List, Option, length, take, drop}
use Rattle.loop_walks.specs.Rows.{Each}
use Rattle.loop_flows.specs.Passes.{spread}
use Rattle.loop_flows.specs.Flows.{together, only_at}
use Rattle.loop_flows.specs.Turns.{is_turn}
use Rattle.loop_worths.proofs.CodeLemmas.{walk_steps}
use Rattle.loop_flow_counts.specs.Wraps.{SameCounts, AgreeIn}
use Rattle.loop_flow_counts.specs.Made.{NotChosen}
use Rattle.loop_flow_counts.proofs.TurnLemmas.{before_shut, behind_shut, pass_by}
use Rattle.loop_flow_counts.proofs.turn.turn_pass.Goals as goal

pub pass-requires-clause-steps : goal.pass-requires-clause-steps
pass-requires-clause-steps c = walk_steps (length c.args.weighed.weights.now - 1) (length c.args.weighed.weights.now) c.args.weighed.steps.now (let a = c.requires.some in omega (arith, a)) c.requires.steps

pub pass-requires-clause-before : goal.pass-requires-clause-before
pass-requires-clause-before c =
    let ring = c.args.ring in
    let ms = c.args.weighed.steps.now in
    subst (λ (ts : List (Option ℤ)). Each (NotChosen (is_turn c.args.weighed.low c.args.weighed.weights.now ring ts)) (take ring.head ms)) (sym c.requires.all)
    (before_shut c.args.weighed.low c.args.weighed.weights.now ring (length c.args.weighed.weights.now - 1) ms c.requires.steps c.requires.ring)

pub pass-requires-clause-behind : goal.pass-requires-clause-behind
pass-requires-clause-behind c =
    let ring = c.args.ring in
    let ms = c.args.weighed.steps.now in
    subst (λ (ts : List (Option ℤ)). Each (NotChosen (is_turn c.args.weighed.low c.args.weighed.weights.now ring ts)) (drop ring.rest ms)) (sym c.requires.all)
    (behind_shut c.args.weighed.low c.args.weighed.weights.now ring (length c.args.weighed.weights.now - 1) ms c.requires.steps c.requires.ring)

pub returns : goal.returns
returns c =
    let low = c.args.weighed.low in
    let weights = c.args.weighed.weights.now in
    let ring = c.args.ring in
    let ms = c.args.weighed.steps.now in
    let old = c.args.counts.now in
    let new = c.pass.new.counts in
    let us = c.begin.new.amounts in
    let n = length weights - 1 in
    let agree = subst (λ k. AgreeIn ring.header ring.end us (only_at (k - 1) ring.header c.args.turns)) c.requires.amounts c.begin.ensures in
    let given =
    subst (λ (ts : List (Option ℤ)). SameCounts new (together old (spread (is_turn low weights ring ts) us ms))) c.requires.all c.pass.ensures in
    subst (λ (ts : List (Option ℤ)). SameCounts new (together old (spread (is_turn low weights ring ts) (only_at n ring.header c.args.turns) ms))) (sym c.requires.all)
    (pass_by low weights ring n ms c.requires.steps c.requires.ring us old new c.args.turns (let a = c.begin.auto.amounts in let b = c.requires.amounts in let d = c.requires.some in omega (arith, a, b, d)) agree given)
