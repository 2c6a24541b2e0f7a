use Rattle.std.proofs.Common.{arith, refl, inl, inr, subst, ℤ}
use Rattle.std.specs.Int.{w128}
use Rattle.std.proofs.lemmas.Int.{to_z-of_z}
use Rattle.path_flow_counts.specs.Puts.{IsPut}
use Rattle.path_flow_counts.proofs.LevelLemmas.{put_start, put_next, put_end}
use Rattle.path_flow_counts.proofs.put.put.Goals as goal

pub loop-place-init : goal.loop-place-init
loop-place-init c = (put_start c.args.from _ c.args.numbers.now, inr refl)

pub loop-place-preserved : goal.loop-place-preserved
loop-place-preserved c =
    let t = c.loop-place-test.true in
    let b = c.requires in
    let l = c.loop-place.auto.numbers in
    (put_next c.args.from c.loop-place.place _ c.args.numbers.now c.loop-place.numbers _ c.loop-place.auto.place (omega (arith, t, b, l)) refl c.loop-place.invariant.0, inl (omega (arith, t)))

pub returns : goal.returns
returns c =
    let f = c.loop-place-test.false in
    subst (λ (z : ℤ). IsPut c.args.from c.args.to z c.args.numbers.now c.loop-place.numbers) (to_z-of_z w128 c.args.number c.ranges.number) (put_end c.args.from c.loop-place.place c.args.to _ c.args.numbers.now c.loop-place.numbers (omega (arith, f)) c.loop-place.invariant.1 c.loop-place.invariant.0)
