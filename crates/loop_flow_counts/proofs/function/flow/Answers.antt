use Rattle.std.proofs.Common.{arith, ◌≡◌, ◌-◌, ◌++◌, ◌∙◌, sym, ap, subst, ℕ, ℤ, List, length, take, drop}
use mir.Val.{to_z, of_z}
use Rattle.std.specs.Int.{w128}
use Rattle.std.proofs.Math.Seq.{take-append_seam}
use Rattle.std.proofs.lemmas.Int.{to_z-of_z}
use Rattle.loop_walks.specs.Walks.{worth_at}
use Rattle.loop_walks.specs.Levels.{Level, level_of, ground, weighed}
use Rattle.loop_walks.specs.Rows.{AreSteps, AreLoops, HaveNone}
use Rattle.loop_flows.specs.Passes.{spread}
use Rattle.loop_flows.proofs.FlowLemmas.{spread-long}
use Rattle.loop_flows.specs.Turns.{is_tight, turnings}
use Rattle.loop_worths.specs.Sizes.{IsSmall, AreSmallTurns}
use Rattle.loop_worths.proofs.CodeLemmas.{walk_steps}
use Rattle.loop_flow_counts.specs.Wraps.{SameCounts}
use Rattle.loop_flow_counts.specs.Made.{HasTurned, bared}
use Rattle.loop_flow_counts.proofs.WrapLemmas.{same-long}
use Rattle.loop_flow_counts.proofs.TurnLemmas.{bared_weighed, turned_from}
use Rattle.loop_flow_counts.proofs.function.flow.Goals as goal

pub end_pass-requires-clause-steps : goal.end_pass-requires-clause-steps
end_pass-requires-clause-steps c = walk_steps (length c.args.worths.now - 1) (length c.ground.new.worths) c.args.code.steps.now (let a = c.requires.some in let b = c.ground.auto.worths in omega (arith, a, b)) c.requires.steps

pub end_pass-requires-clause-worths : goal.end_pass-requires-clause-worths
end_pass-requires-clause-worths c =
    let v = level_of c.args.worths.now c.args.weights.now in
    let is = c.in_ok-ground.ensures.worths ∙ ap (λ (z : ℤ). (ground z c.args.code.steps.now v c.args.code.loops.now).worths) (to_z-of_z w128 c.args.low c.ranges.low) in
    λ a. subst (λ (ws : List ℤ). IsSmall (worth_at ws a)) (sym is) (c.requires.small.walk.worths 0 a)

pub turn_all-requires-clause-weights : goal.turn_all-requires-clause-weights
turn_all-requires-clause-weights c =
    let low = to_z w128 (of_z w128 c.args.low) in
    let ms = c.args.code.steps.now in
    let ls = c.args.code.loops.now in
    let w = c.in_ok-ground.ensures.weights in
    let back = ap (λ (ws : List ℤ). bared ws ls) w ∙ bared_weighed low (length c.args.worths.now - 1) ms c.args.weights.now ls c.requires.loops c.requires.none in
    w ∙ ap (λ (ws : List ℤ). weighed low ms ws ls) (sym back)

pub turn_all-requires-clause-none : goal.turn_all-requires-clause-none
turn_all-requires-clause-none c =
    let ls = c.args.code.loops.now in
    let back = ap (λ (ws : List ℤ). bared ws ls) c.in_ok-ground.ensures.weights ∙ bared_weighed (to_z w128 (of_z w128 c.args.low)) (length c.args.worths.now - 1) c.args.code.steps.now c.args.weights.now ls c.requires.loops c.requires.none in
    subst (λ (ws : List ℤ). HaveNone ws ls) (sym back) c.requires.none

pub turn_all-requires-clause-steps : goal.turn_all-requires-clause-steps
turn_all-requires-clause-steps c =
    let a = c.ground.auto.weights in
    let b = c.requires.long in
    let e : length c.args.worths.now - 1 ≡ length c.ground.new.weights - 1 = omega (arith, a, b) in
    subst (λ (k : ℕ). AreSteps k c.args.code.steps.now) e c.requires.steps

pub turn_all-requires-clause-loops : goal.turn_all-requires-clause-loops
turn_all-requires-clause-loops c =
    let a = c.ground.auto.weights in
    let b = c.requires.long in
    let e : length c.args.worths.now - 1 ≡ length c.ground.new.weights - 1 = omega (arith, a, b) in
    subst (λ (k : ℕ). AreLoops k c.args.code.steps.now c.args.code.loops.now) e c.requires.loops

pub turn_all-requires-clause-counts : goal.turn_all-requires-clause-counts
turn_all-requires-clause-counts c =
    let chosen = is_tight (level_of c.ground.new.worths c.ground.new.weights) in
    ap length c.deref_mut.ensures.value ∙ (same-long c.in_ok-counts.counts.items (spread chosen c.args.amounts.now c.args.code.steps.now) c.in_ok-counts.ensures ∙ spread-long chosen c.args.amounts.now c.args.code.steps.now)

pub turn_all-requires-clause-small : goal.turn_all-requires-clause-small
turn_all-requires-clause-small c =
    let low = to_z w128 (of_z w128 c.args.low) in
    let ms = c.args.code.steps.now in
    let ls = c.args.code.loops.now in
    let back = ap (λ (ws : List ℤ). bared ws ls) c.in_ok-ground.ensures.weights ∙ bared_weighed low (length c.args.worths.now - 1) ms c.args.weights.now ls c.requires.loops c.requires.none in
    subst (λ (ws : List ℤ). AreSmallTurns low ms ws ls) (sym back) (subst (λ (z : ℤ). AreSmallTurns z ms c.args.weights.now ls) (sym (to_z-of_z w128 c.args.low c.ranges.low)) c.requires.small.turns)

pub returns : goal.returns
returns c =
    let low = c.args.low in
    let low' = to_z w128 (of_z w128 c.args.low) in
    let e = to_z-of_z w128 c.args.low c.ranges.low in
    let n = length c.args.worths.now - 1 in
    let ms = c.args.code.steps.now in
    let ls = c.args.code.loops.now in
    let v = level_of c.args.worths.now c.args.weights.now in
    let worths = c.ground.new.worths in
    let weights = c.ground.new.weights in
    let new = c.turn_all.new.counts in
    let rest = drop (length new) c.in_ok-counts.counts.items in
    let backs = c.in_ok-backs.backs.items in
    let back = ap (λ (ws : List ℤ). bared ws ls) c.in_ok-ground.ensures.weights ∙ bared_weighed low' n ms c.args.weights.now ls c.requires.loops c.requires.none in
    let worths_are = c.in_ok-ground.ensures.worths ∙ ap (λ (z : ℤ). (ground z ms v ls).worths) e in
    let weights_are = c.in_ok-ground.ensures.weights ∙ ap (λ (z : ℤ). (ground z ms v ls).weights) e in
    let level : level_of worths weights ≡ ground low ms v ls = ap (λ (ws : List ℤ). level_of ws weights) worths_are ∙ ap (λ (ws : List ℤ). level_of (ground low ms v ls).worths ws) weights_are in
    let long : c.in_ok-counts.counts.len ≡ length new = (let a = c.turn_all.auto.counts in let b = c.deref_mut.ensures.len in omega (arith, a, b)) in
    let items = ap (λ (k : ℕ). take k (new ++ rest)) long ∙ take-append_seam new rest in
    let first = spread (is_tight (ground low ms v ls)) c.args.amounts.now ms in
    let counted : SameCounts c.deref_mut.result.now first =
    subst (λ (us : List ℕ). SameCounts us first) (sym c.deref_mut.ensures.value) (subst (λ (g : Level). SameCounts c.in_ok-counts.counts.items (spread (is_tight g) c.args.amounts.now ms)) level c.in_ok-counts.ensures) in
    let places : length weights - 1 ≡ n = (let a = c.ground.auto.weights in let b = c.requires.long in omega (arith, a, b)) in
    let turned =
    subst (λ (z : ℤ). HasTurned n ms c.deref_mut.result.now (turnings z ms c.args.weights.now ls) new backs) e
    (subst (λ (ws : List ℤ). HasTurned n ms c.deref_mut.result.now (turnings low' ms ws ls) new backs) back
    (subst (λ (k : ℕ). HasTurned k ms c.deref_mut.result.now (turnings low' ms (bared weights ls) ls) new backs) places c.in_ok-backs.ensures.turned)) in
    record {
      worths = worths_are;
      weights = c.in_ok-backs.ensures.weights ∙ back;
      made = subst (λ (us : List ℕ). HasTurned n ms first (turnings low ms c.args.weights.now ls) us backs) (sym items) (turned_from n ms c.deref_mut.result.now first new (turnings low ms c.args.weights.now ls) backs counted turned);
    }
