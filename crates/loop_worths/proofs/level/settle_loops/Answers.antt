use Rattle.std.proofs.Common.{rules, arith, FitsSigned, ◌∙◌, refl, sym, ap, subst, ℤ, pos, List, get_or}
use mir.Val.{to_z, of_z}
use Rattle.std.specs.Int.{w128}
use Rattle.std.proofs.lemmas.Int.{to_z-of_z}
use Rattle.loop_walks.specs.Levels.{level_of, level_pair, level_by, levels, level_pairs}
use Rattle.loop_worths.specs.Rings.{IsRing}
use Rattle.loop_worths.specs.Sizes.{IsSmall, IsSmallLevel, AreSmallLevels}
use Rattle.loop_worths.proofs.CodeLemmas.{settles_start, settle_on, settles_end, small_level, no_loop}
use Rattle.loop_worths.proofs.level.settle_loops.Goals as goal

pub loop-i-init : goal.loop-i-init
loop-i-init c =
    let e = to_z-of_z w128 c.args.low c.ranges.low in
    let v = level_of c.args.worths.now c.args.weights.now in
    (settles_start (to_z w128 (of_z w128 c.args.low)) c.args.code.steps.now v c.args.gains.now c.new-pairs.result.items c.args.code.loops.now c.new-pairs.ensures.items (subst (λ (z : ℤ). AreSmallLevels z c.args.code.steps.now v c.args.code.loops.now c.args.gains.now) (sym e) c.requires.small), refl, refl)

pub loop-i-preserved : goal.loop-i-preserved
loop-i-preserved c =
    let low = to_z w128 (of_z w128 c.args.low) in
    let v = level_of c.loop-i.worths c.loop-i.weights in
    let ring = get_or c.args.code.loops.now c.loop-i.i no_loop in
    let f : FitsSigned w128 (get_or c.args.gains.now c.loop-i.i (pos 0)) = search rules in
    let e = to_z-of_z w128 (get_or c.args.gains.now c.loop-i.i (pos 0)) f in
    let p = c.level_pair-pair.result in
    let x = level_by c.args.code.steps.now v ring p in
    let a = c.level.auto.worths in
    let b = c.level.auto.weights in
    let i = c.loop-i.invariant.1 in
    let j = c.loop-i.invariant.2 in (
      settle_on low c.args.code.steps.now v (level_of c.level.new.worths c.level.new.weights) c.args.gains.now c.loop-i.pairs.items c.push.new.self.items c.args.code.loops.now c.loop-i.i no_loop p _ _ c.loop-i-test.true c.requires.gains c.loop-i.invariant.0
          (c.level_pair-pair.ensures ∙ ap (λ (z : ℤ). level_pair low c.args.code.steps.now c.loop-i.worths ring z) e)
          (ap (λ (ws : List ℤ). level_of ws c.level.new.weights) c.level.ensures.worths ∙ ap (λ (ws : List ℤ). level_of x.worths ws) c.level.ensures.weights)
          c.in_ok-push.ensures.items,
      omega arith,
      omega arith,
    )

pub level_pair-pair-requires-clause-fits : goal.level_pair-pair-requires-clause-fits
level_pair-pair-requires-clause-fits c = subst (λ n. IsRing n c.args.code.steps.now (get_or c.args.code.loops.now c.loop-i.i no_loop)) (sym c.loop-i.invariant.1) (c.requires.loops c.loop-i.i no_loop c.loop-i-test.true)

pub level_pair-pair-requires-clause-gain : goal.level_pair-pair-requires-clause-gain
level_pair-pair-requires-clause-gain c =
    let f : FitsSigned w128 (get_or c.args.gains.now c.loop-i.i (pos 0)) = search rules in
    subst IsSmall (sym (to_z-of_z w128 (get_or c.args.gains.now c.loop-i.i (pos 0)) f))
    (small_level (to_z w128 (of_z w128 c.args.low)) c.args.code.steps.now (level_of c.loop-i.worths c.loop-i.weights) c.args.gains.now c.loop-i.pairs.items c.args.code.loops.now c.loop-i.i no_loop _ _ c.loop-i-test.true c.requires.gains c.loop-i.invariant.0).0

pub level_pair-pair-requires-clause-prices : goal.level_pair-pair-requires-clause-prices
level_pair-pair-requires-clause-prices c =
    (small_level (to_z w128 (of_z w128 c.args.low)) c.args.code.steps.now (level_of c.loop-i.worths c.loop-i.weights) c.args.gains.now c.loop-i.pairs.items c.args.code.loops.now c.loop-i.i no_loop _ _ c.loop-i-test.true c.requires.gains c.loop-i.invariant.0).1.prices

pub level_pair-pair-requires-clause-worths : goal.level_pair-pair-requires-clause-worths
level_pair-pair-requires-clause-worths c =
    (small_level (to_z w128 (of_z w128 c.args.low)) c.args.code.steps.now (level_of c.loop-i.worths c.loop-i.weights) c.args.gains.now c.loop-i.pairs.items c.args.code.loops.now c.loop-i.i no_loop _ _ c.loop-i-test.true c.requires.gains c.loop-i.invariant.0).1.worths

pub level-requires-clause-fits : goal.level-requires-clause-fits
level-requires-clause-fits c = subst (λ n. IsRing n c.args.code.steps.now (get_or c.args.code.loops.now c.loop-i.i no_loop)) (sym c.loop-i.invariant.1) (c.requires.loops c.loop-i.i no_loop c.loop-i-test.true)

pub level-requires-clause-small : goal.level-requires-clause-small
level-requires-clause-small c =
    let low = to_z w128 (of_z w128 c.args.low) in
    let ring = get_or c.args.code.loops.now c.loop-i.i no_loop in
    let f : FitsSigned w128 (get_or c.args.gains.now c.loop-i.i (pos 0)) = search rules in
    let e = to_z-of_z w128 (get_or c.args.gains.now c.loop-i.i (pos 0)) f in
    subst (λ p. IsSmallLevel c.args.code.steps.now (level_of c.loop-i.worths c.loop-i.weights) ring p)
    (sym (c.level_pair-pair.ensures ∙ ap (λ (z : ℤ). level_pair low c.args.code.steps.now c.loop-i.worths ring z) e))
    (small_level low c.args.code.steps.now (level_of c.loop-i.worths c.loop-i.weights) c.args.gains.now c.loop-i.pairs.items c.args.code.loops.now c.loop-i.i no_loop _ _ c.loop-i-test.true c.requires.gains c.loop-i.invariant.0).1

pub returns : goal.returns
returns c =
    let e = to_z-of_z w128 c.args.low c.ranges.low in
    let v = level_of c.args.worths.now c.args.weights.now in
    let r = settles_end (to_z w128 (of_z w128 c.args.low)) c.args.code.steps.now (level_of c.loop-i.worths c.loop-i.weights) c.args.gains.now c.loop-i.pairs.items c.args.code.loops.now c.loop-i.i _ _ c.loop-i-test.false c.loop-i.invariant.0 in
    record {
      level = r.0 ∙ ap (λ (z : ℤ). levels z c.args.code.steps.now v c.args.code.loops.now c.args.gains.now) e;
      pairs = r.1 ∙ ap (λ (z : ℤ). level_pairs z c.args.code.steps.now v c.args.code.loops.now c.args.gains.now) e;
    }
