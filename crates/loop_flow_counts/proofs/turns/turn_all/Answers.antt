use Rattle.std.proofs.Common.{rules, arith, ◌-◌, ◌<◌, ◌∙◌, refl, sym, ap, subst, ℕ, ℤ, [], pos, length, get_or}
use Rattle.std.specs.Prelude.{slice_set}
use Rattle.std.specs.Option.{option_to_list}
use mir.Val.{to_z, of_z}
use Rattle.std.specs.Int.{w128}
use Rattle.std.proofs.Math.ListN.{length-set}
use Rattle.std.proofs.lemmas.Int.{to_z-of_z}
use Rattle.loop_walks.specs.Levels.{weighed}
use Rattle.loop_walks.specs.Rows.{AreSteps, IsLoopOf}
use Rattle.loop_flows.specs.Turns.{with_back, turnings}
use Rattle.loop_worths.specs.Sizes.{AreSmallTurns}
use Rattle.loop_worths.proofs.CodeLemmas.{no_loop}
use Rattle.loop_flow_counts.specs.Made.{HasTurned, bared}
use Rattle.loop_flow_counts.proofs.TurnLemmas.{turns_start, turns_next, turns_end, weight_next, loop_at, small_again}
use Rattle.loop_flow_counts.proofs.turns.turn_all.Goals as goal

pub loop-i-init : goal.loop-i-init
loop-i-init c =
    let e = to_z-of_z w128 c.args.low c.ranges.low in
    let ms = c.args.code.steps.now in
    let ls = c.args.code.loops.now in
    let bare = bared c.args.weights.now ls in (
      turns_start (to_z w128 (of_z w128 c.args.low)) (length c.args.weights.now - 1) ms bare ls c.args.counts.now c.args.weights.now c.args.counts.now c.new-backs.result.items
          (c.requires.weights ∙ ap (λ (z : ℤ). weighed z ms bare ls) (sym e)) refl c.requires.counts c.new-backs.ensures.items,
      refl,
      c.requires.amounts,
    )

pub offset_bounds-weights-ring : goal.offset_bounds-weights-ring
offset_bounds-weights-ring c =
    let fits = loop_at (length c.args.weights.now - 1) c.args.code.steps.now c.args.code.loops.now c.loop-i.i no_loop c.requires.loops c.loop-i-test.true in
    let r0 = fits.range.0 in
    let r1 = fits.range.1 in
    let l = c.loop-i.invariant.1 in
    let lt : (get_or c.args.code.loops.now c.loop-i.i no_loop).header < length c.loop-i.weights = omega (arith, r0, r1, l) in
    search (rules, lt)

pub slice_set_of-weights : goal.slice_set_of-weights
slice_set_of-weights c =
    let fits = loop_at (length c.args.weights.now - 1) c.args.code.steps.now c.args.code.loops.now c.loop-i.i no_loop c.requires.loops c.loop-i-test.true in
    let r0 = fits.range.0 in
    let r1 = fits.range.1 in
    let l = c.loop-i.invariant.1 in
    let lt : (get_or c.args.code.loops.now c.loop-i.i no_loop).header < length c.loop-i.weights = omega (arith, r0, r1, l) in
    search (rules, lt)

pub turn_ring-requires-clause-ring : goal.turn_ring-requires-clause-ring
turn_ring-requires-clause-ring c =
    let ring = get_or c.args.code.loops.now c.loop-i.i no_loop in
    let l = length-set c.loop-i.weights ring.header (pos 0) ∙ c.loop-i.invariant.1 in
    subst (λ k. IsLoopOf (k - 1) c.args.code.steps.now ring) (sym l) (loop_at (length c.args.weights.now - 1) c.args.code.steps.now c.args.code.loops.now c.loop-i.i no_loop c.requires.loops c.loop-i-test.true)

pub turn_ring-requires-clause-steps : goal.turn_ring-requires-clause-steps
turn_ring-requires-clause-steps c =
    let ring = get_or c.args.code.loops.now c.loop-i.i no_loop in
    let l = length-set c.loop-i.weights ring.header (pos 0) ∙ c.loop-i.invariant.1 in
    subst (λ k. AreSteps (k - 1) c.args.code.steps.now) (sym l) c.requires.steps

pub turn_ring-requires-clause-small : goal.turn_ring-requires-clause-small
turn_ring-requires-clause-small c =
    let low = to_z w128 (of_z w128 c.args.low) in
    small_again low (length c.args.weights.now - 1) c.args.code.steps.now (bared c.args.weights.now c.args.code.loops.now) c.args.code.loops.now c.args.counts.now c.loop-i.weights c.loop-i.counts c.loop-i.backs.items c.loop-i.i no_loop c.loop-i-test.true c.loop-i.invariant.0 c.requires.loops c.requires.none
    (subst (λ (z : ℤ). AreSmallTurns z c.args.code.steps.now (bared c.args.weights.now c.args.code.loops.now) c.args.code.loops.now) (sym (to_z-of_z w128 c.args.low c.ranges.low)) c.requires.small)

pub loop-i-preserved : goal.loop-i-preserved
loop-i-preserved c =
    let low = to_z w128 (of_z w128 c.args.low) in
    let n = length c.args.weights.now - 1 in
    let ms = c.args.code.steps.now in
    let ls = c.args.code.loops.now in
    let bare = bared c.args.weights.now ls in
    let ring = get_or ls c.loop-i.i no_loop in
    let weights = slice_set c.loop-i.weights ring.header (pos 0) in
    let l = length-set c.loop-i.weights ring.header (pos 0) ∙ c.loop-i.invariant.1 in
    let e = weight_next low n ms bare ls c.args.counts.now c.loop-i.weights c.loop-i.counts c.loop-i.backs.items c.loop-i.i no_loop c.loop-i-test.true c.loop-i.invariant.0 n c.requires.loops c.requires.none weights refl in
    let bs = option_to_list c.in_ok-back.back in
    let turned = subst (λ (k : ℕ). HasTurned (k - 1) ms c.loop-i.counts (with_back low weights ring ms ring.back []) c.turn_ring.new.counts bs) l c.in_ok-back.ensures in (
      turns_next low n ms bare ls c.args.counts.now c.loop-i.weights c.loop-i.counts c.loop-i.backs.items c.loop-i.i no_loop c.loop-i-test.true c.loop-i.invariant.0 weights c.turn_ring.new.counts c.push.new.backs.items bs e turned c.turn_ring.auto.counts c.in_ok-push.ensures,
      l,
      c.turn_ring.auto.amounts ∙ c.loop-i.invariant.2,
    )

pub returns : goal.returns
returns c =
    let e = to_z-of_z w128 c.args.low c.ranges.low in
    let n = length c.args.weights.now - 1 in
    let ms = c.args.code.steps.now in
    let ls = c.args.code.loops.now in
    let bare = bared c.args.weights.now ls in
    let f = c.loop-i-test.false in
    let r = turns_end (to_z w128 (of_z w128 c.args.low)) n ms bare ls c.args.counts.now c.loop-i.weights c.loop-i.counts c.loop-i.backs.items c.loop-i.i (omega (arith, f)) c.loop-i.invariant.0 in
    record {
      weights = r.0;
      turned = subst (λ (z : ℤ). HasTurned n ms c.args.counts.now (turnings z ms bare ls) c.loop-i.counts c.loop-i.backs.items) e r.1;
    }
