use Rattle.std.proofs.Common.{rules, FitsSigned, subst, sym, ap, refl, ◌∙◌, ◌-◌, ℤ, length, get_or}
use Rattle.std.specs.Prelude.{slice_set}
use mir.Val.{to_z, of_z}
use Rattle.std.specs.Int.{w128}
use Rattle.std.proofs.lemmas.Int.{to_z-of_z}
use Rattle.loop_walks.specs.Multipliers.{first_weight}
use Rattle.loop_worths.specs.Sizes.{AreSmallTurns}
use Rattle.loop_worths.proofs.CodeLemmas.{small_next, weigh_on, no_loop}
use Rattle.loop_worths.proofs.level.weigh.Goals as goal

pub weigh_one-requires-clause-small : goal.weigh_one-requires-clause-small
weigh_one-requires-clause-small c =
    let e = to_z-of_z w128 c.args.low c.ranges.low in
    small_next (to_z w128 (of_z w128 c.args.low)) c.args.code.steps.now c.args.weights.now c.loop-k.weights c.loop-k.gains.items c.args.code.loops.now c.loop-k.k no_loop c.loop-k-test.true (subst (λ (z : ℤ). AreSmallTurns z c.args.code.steps.now c.args.weights.now c.args.code.loops.now) (sym e) c.requires.small) c.loop-k.invariant

pub loop-k-preserved : goal.loop-k-preserved
loop-k-preserved c =
    let f : FitsSigned w128 c.in_ok-gains-2.field-0 = search rules in
    let e = to_z-of_z w128 c.in_ok-gains-2.field-0 f in
    let low = to_z w128 (of_z w128 c.args.low) in
    let ring = get_or c.args.code.loops.now (length c.args.code.loops.now - 1 - c.loop-k.k) no_loop in
    weigh_on low c.args.code.steps.now c.args.weights.now c.loop-k.weights c.weigh_one.new.weights c.loop-k.gains.items _ c.args.code.loops.now c.loop-k.k no_loop (to_z w128 (of_z w128 c.in_ok-gains-2.field-0)) c.loop-k-test.true c.loop-k.invariant
    (e ∙ c.in_ok-gains-2.ensures.gain) (c.in_ok-gains-2.ensures.weight ∙ ap (λ (z : ℤ). slice_set c.loop-k.weights ring.header (first_weight low ring z)) (sym e)) refl
