use Rattle.std.proofs.Common.{rules, ◌≡◌, ◌∙◌, ◌*ℤ◌, ℤ, pos, sym, ap, subst, List, get_or, true, false, unsigned_abs, FitsSigned}
use mir.Val.{to_z, of_z}
use Rattle.std.specs.Int.{w128}
use Rattle.std.proofs.lemmas.Int.{to_z-of_z}
use Rattle.simplex_rounds.specs.Limits.{is_narrow, all_narrow}
use Rattle.simplex_rounds.specs.Multiplied.{times_all}
use Rattle.simplex_rounds.proofs.NarrowLemmas.{narrow_more}
use Rattle.simplex_rounds.proofs.StepLemmas.{next_item, times_next, products_wide, products_done}
use Rattle.simplex_rounds.proofs.pricing.products.Goals as goal

pub returns-in-None : goal.returns-in-None
returns-in-None c =
    let ef = to_z-of_z w128 c.args.factor c.ranges.factor in
    let fits : FitsSigned w128 (get_or c.args.numbers.now c.loop-i.i (pos 0)) = search rules in
    let en = to_z-of_z w128 (get_or c.args.numbers.now c.loop-i.i (pos 0)) fits in
    let wide = subst (λ (z : ℤ). is_narrow c.args.times (unsigned_abs (to_z w128 (of_z w128 c.args.factor) *ℤ z)) ≡ false) en c.in-None.ensures in
    let no = products_wide c.args.times (to_z w128 (of_z w128 c.args.factor)) c.loop-i.all.items c.args.numbers.now c.loop-i.i c.loop-i-test.true c.loop-i.invariant.0 wide in
    record { value = subst (λ (z : ℤ). all_narrow c.args.times (times_all z c.args.numbers.now) ≡ false) ef no }

pub loop-i-preserved : goal.loop-i-preserved
loop-i-preserved c =
    let f = to_z w128 (of_z w128 c.args.factor) in
    let fits : FitsSigned w128 (get_or c.args.numbers.now c.loop-i.i (pos 0)) = search rules in
    let en = to_z-of_z w128 (get_or c.args.numbers.now c.loop-i.i (pos 0)) fits in
    let fz : FitsSigned w128 c.in-Some.z = search rules in
    let ez = to_z-of_z w128 c.in-Some.z fz in
    let item = ez ∙ (c.in-Some.ensures.0 ∙ ap (λ (z : ℤ). to_z w128 (of_z w128 c.args.factor) *ℤ z) en) in
    let narrow = subst (λ (z : ℤ). is_narrow c.args.times (unsigned_abs z) ≡ true) (sym ez) c.in-Some.ensures.1 in (
      next_item c.loop-i.all.items _ _ _ _ _ _ c.in_ok-push-in-Some.ensures.items item (times_next f c.loop-i.i c.args.numbers.now c.loop-i-test.true) c.loop-i.invariant.0,
      subst (λ (xs : List ℤ). all_narrow c.args.times xs ≡ true) (sym c.in_ok-push-in-Some.ensures.items) (narrow_more c.args.times c.loop-i.all.items (to_z w128 (of_z w128 c.in-Some.z)) c.loop-i.invariant.1 narrow),
    )

pub returns : goal.returns
returns c =
    let ef = to_z-of_z w128 c.args.factor c.ranges.factor in
    record { value = (products_done (to_z w128 (of_z w128 c.args.factor)) c.args.factor c.loop-i.all.items c.args.numbers.now c.loop-i.i ef c.loop-i-test.false c.loop-i.invariant.0, c.loop-i.invariant.1) }
