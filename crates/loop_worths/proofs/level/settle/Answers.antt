use Rattle.std.proofs.Common.{arith, ◌≡◌, ◌-◌, ◌∙◌, sym, ap, subst, ℤ, length, Vec, Global}
use mir.Val.{to_z, of_z}
use Rattle.std.specs.Int.{w128}
use Rattle.std.proofs.lemmas.Int.{to_z-of_z}
use Rattle.std.proofs.lemmas.Result.{IfOk-weaker}
use Rattle.loop_walks.specs.declared.step.Pair.{Pair}
use Rattle.loop_walks.specs.Levels.{Level, level_of, settled, settled_pairs}
use Rattle.loop_walks.specs.Rows.{ArePaid, AreSettled}
use Rattle.loop_walks.proofs.LevelLemmas.{settled_holds}
use Rattle.loop_worths.specs.Outcomes.{AreLevels}
use Rattle.loop_worths.specs.Sizes.{StaysSmall}
use Rattle.loop_worths.proofs.CodeLemmas.{rings, gains-long, worths_by, small_levels, settled_by}
use Rattle.loop_worths.proofs.level.settle.Goals as goal

pub settle_loops-requires-clause-long : goal.settle_loops-requires-clause-long
settle_loops-requires-clause-long c = let a = c.ground.auto.weights in let b = c.ground.auto.worths in let d = c.requires.long in omega (arith, a, b, d)

pub settle_loops-requires-clause-loops : goal.settle_loops-requires-clause-loops
settle_loops-requires-clause-loops c = rings (length c.args.worths.now - 1) (length c.ground.new.worths) c.args.code.steps.now c.args.code.loops.now (let a = c.requires.some in let b = c.ground.auto.worths in omega (arith, a, b)) c.requires.steps c.requires.loops

pub settle_loops-requires-clause-gains : goal.settle_loops-requires-clause-gains
settle_loops-requires-clause-gains c = ap length c.deref.ensures.value ∙ (ap length c.in_ok-gains.ensures.gains ∙ gains-long (to_z w128 (of_z w128 c.args.low)) c.args.code.steps.now c.args.weights.now c.args.code.loops.now)

pub settle_loops-requires-clause-small : goal.settle_loops-requires-clause-small
settle_loops-requires-clause-small c =
    let v = level_of c.args.worths.now c.args.weights.now in
    small_levels (to_z w128 (of_z w128 c.args.low)) c.args.code.steps.now v c.ground.new.worths c.ground.new.weights c.deref.result.now c.args.code.loops.now
    c.in_ok-gains.ensures.weights (worths_by (to_z w128 (of_z w128 c.args.low)) c.args.code.steps.now v c.ground.new.worths c.ground.new.weights c.args.code.loops.now c.in_ok-gains.ensures.weights c.in_ok-gains.ensures.worths) (c.deref.ensures.value ∙ c.in_ok-gains.ensures.gains)
    (subst (λ (z : ℤ). StaysSmall z c.args.code.steps.now v c.args.code.loops.now) (sym (to_z-of_z w128 c.args.low c.ranges.low)) c.requires.small)

pub returns : goal.returns
returns c =
    let e = to_z-of_z w128 c.args.low c.ranges.low in
    let v = level_of c.args.worths.now c.args.weights.now in
    let w = level_of c.settle_loops.new.worths c.settle_loops.new.weights in
    let steps = c.args.code.steps.now in
    let loops = c.args.code.loops.now in
    let low = to_z w128 (of_z w128 c.args.low) in
    let gs = c.deref.result.now in
    let held = settled_holds c.args.low (length c.args.worths.now - 1) steps v loops (let a = c.requires.some in omega (arith, a)) (let a = c.requires.some in let b = c.requires.long in omega (arith, a, b)) c.requires.steps c.requires.loops c.requires.none in
    let Given : Vec Pair Global → Type 0 = λ ps. AreLevels low steps (level_of c.ground.new.worths c.ground.new.weights) loops gs w ps.items in
    let both : (ps : Vec Pair Global) → Given ps → (w ≡ settled c.args.low steps v loops) × (ps.items ≡ settled_pairs c.args.low steps v loops) =
    λ ps h. settled_by c.args.low low steps v c.ground.new.worths c.ground.new.weights gs loops w ps.items e c.in_ok-gains.ensures.weights (worths_by low steps v c.ground.new.worths c.ground.new.weights loops c.in_ok-gains.ensures.weights c.in_ok-gains.ensures.worths) (c.deref.ensures.value ∙ c.in_ok-gains.ensures.gains) h in
    let r = c.settle_loops.result in
    let told = c.settle_loops.ensures in
    record {
      worths = IfOk-weaker r Given (λ ps. w.worths ≡ (settled c.args.low steps v loops).worths) (λ ps h. ap (λ (x : Level). x.worths) (both ps h).0) told;
      weights = IfOk-weaker r Given (λ ps. w.weights ≡ (settled c.args.low steps v loops).weights) (λ ps h. ap (λ (x : Level). x.weights) (both ps h).0) told;
      pairs = IfOk-weaker r Given (λ ps. ps.items ≡ settled_pairs c.args.low steps v loops) (λ ps h. (both ps h).1) told;
      paid = IfOk-weaker r Given (λ ps. ArePaid w steps) (λ ps h. subst (λ x. ArePaid x steps) (sym (both ps h).0) held.paid) told;
      settled = IfOk-weaker r Given (λ ps. AreSettled w loops ps.items) (λ ps h. subst (λ x. AreSettled x loops ps.items) (sym (both ps h).0) (subst (λ qs. AreSettled (settled c.args.low steps v loops) loops qs) (sym (both ps h).1) held.settled)) told;
    }
