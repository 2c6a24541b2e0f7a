use Rattle.std.proofs.Common.{rules, ◌≡◌, ◌+◌, ◌+ℤ◌, ◌*ℤ◌, ◌-ℤ◌, ◌∙◌, sym, ap, subst, pos, ℤ, get_or, length, FitsSigned}
use mir.Val.{to_z, of_z}
use Rattle.std.specs.Int.{w128}
use Rattle.std.proofs.lemmas.Int.{to_z-of_z}
use Rattle.frac128.specs.Terms.{coefficient}
use Rattle.path_fact_walks.proofs.SizeLemmas.{small_fits, IsHeld, held_goes, held_fits}
use Rattle.path_fact_walks.proofs.pricing.held.Goals as goal

pub loop-i-preserved : goal.loop-i-preserved
loop-i-preserved c =
    let fs = c.args.facts.now in
    let ys = c.args.multipliers.now in
    let i = c.loop-i.i in
    let s = to_z w128 c.loop-i.sum-bits in
    let fy : FitsSigned w128 (get_or ys i (pos 0)) = search rules in
    let ey = to_z-of_z w128 (get_or ys i (pos 0)) fy in
    let fd : FitsSigned w128 c.difference.result = search rules in
    let ed = to_z-of_z w128 c.difference.result fd in
    let fz : FitsSigned w128 c.times-sum.result = search rules in
    let ez = to_z-of_z w128 c.times-sum.result fz in
    let d : c.difference.result ≡ coefficient c.index-facts-i.result.left c.args.at -ℤ coefficient c.index-facts-i.result.right c.args.at = c.difference.ensures.value in
    let z : c.times-sum.result ≡ get_or ys i (pos 0) *ℤ c.difference.result = cc (c.times-sum.ensures.value, ey, ed) in
    let h : IsHeld fs ys c.args.at i s = c.loop-i.invariant in
    let k = held_fits s c.times-sum.result i (length fs) h.1 c.times-sum.ensures.small c.loop-i-test.true c.requires.few in
    let e : to_z w128 (of_z w128 (s +ℤ to_z w128 (of_z w128 c.times-sum.result))) ≡ s +ℤ c.times-sum.result = ap (λ (y : ℤ). to_z w128 (of_z w128 (s +ℤ y))) ez ∙ to_z-of_z w128 (s +ℤ c.times-sum.result) (small_fits (s +ℤ c.times-sum.result) k) in
    subst (IsHeld fs ys c.args.at (i + 1)) (sym e) (held_goes fs ys c.args.at i c.index-facts-i.result s c.difference.result c.times-sum.result c.index-facts-i.is c.loop-i-test.true c.requires.count d z c.times-sum.ensures.small h)
