use Rattle.std.proofs.Common.{rules, ◌∙◌, arith}
use Rattle.std.specs.Int.{w128}
use Rattle.std.proofs.lemmas.Int.{to_z-of_z}
use Rattle.simplex_rounds.proofs.StepLemmas.{place_inside, dual_within, sides_step, duals_step}
use Rattle.simplex_rounds.proofs.pricing.dual_values.Goals as goal

pub one_dual-requires-clause-within : goal.one_dual-requires-clause-within
one_dual-requires-clause-within c = dual_within c.loop-i.place c.args.from c.loop-i.i _ c.args.ops.now c.loop-i-test.true c.loop-i.invariant.1 c.requires.within

pub one_dual-requires-clause-first : goal.one_dual-requires-clause-first
one_dual-requires-clause-first c =
    let inv = c.loop-i.invariant in
    c.requires.none c.loop-i.place (omega (arith, c.requires.from, inv.2)) (place_inside c.loop-i.place c.args.from c.loop-i.i c.args.ops.now c.loop-i-test.true inv.1)

pub loop-i-preserved : goal.loop-i-preserved
loop-i-preserved c =
    let inv = c.loop-i.invariant in
    let item = to_z-of_z w128 c.one_dual.result (search rules) ∙ c.one_dual.ensures in (
      duals_step c.loop-i.values.items _ _ _ c.loop-i.place c.sides_in-place.result c.loop-i.i c.args.ops.now c.args.row.now _ c.loop-i-test.true c.in_ok-push-2.ensures.items item c.sides_in-place.ensures.value inv.0,
      sides_step c.loop-i.place c.sides_in-place.result c.args.from c.loop-i.i c.args.ops.now _ c.loop-i-test.true c.sides_in-place.ensures.value inv.1,
      omega (arith, inv.2),
    )
