use Rattle.std.proofs.Common.{◌≡◌, ◌≤◌, ◌<◌, ◌^◌, ◌∙◌, ◌*ℤ◌, ℤ, arith, ap, true, unsigned_abs}
use mir.Val.{to_z, of_z}
use Rattle.std.specs.Int.{w128}
use Rattle.std.proofs.lemmas.Int.{to_z-of_z, fits_signed_mul}
use Rattle.simplex_rounds.proofs.StepLemmas.{large_wide}
use Rattle.simplex_rounds.proofs.pricing.product.Goals as goal

pub returns-then-unsigned_abs-gt-LIMIT : goal.returns-then-unsigned_abs-gt-LIMIT
returns-then-unsigned_abs-gt-LIMIT c =
    let e2 = to_z-of_z w128 c.args.number c.ranges.number in
    let large : 2 ^ 44 < unsigned_abs c.args.number = grind (arith, c.if-unsigned_abs-gt-LIMIT.true, c.unsigned_abs.ensures.value, e2) in
    large_wide c.args.times c.args.factor c.args.number c.requires.times c.requires.positive large

pub returns : goal.returns
returns c =
    let e1 = to_z-of_z w128 c.args.factor c.ranges.factor in
    let e2 = to_z-of_z w128 c.args.number c.ranges.number in
    let small : unsigned_abs c.args.number ≤ 2 ^ 44 = grind (arith, c.if-unsigned_abs-gt-LIMIT.false, c.unsigned_abs.ensures.value, e2) in
    let p : to_z w128 (of_z w128 c.args.factor) *ℤ to_z w128 (of_z w128 c.args.number) ≡ c.args.factor *ℤ c.args.number = ap (λ (z : ℤ). z *ℤ to_z w128 (of_z w128 c.args.number)) e1 ∙ ap (λ (z : ℤ). c.args.factor *ℤ z) e2 in
    let fits = fits_signed_mul w128 c.args.factor c.args.number (2 ^ 60) (2 ^ 44) c.requires.small small (omega arith) in
    let whole : to_z w128 (of_z w128 (to_z w128 (of_z w128 c.args.factor) *ℤ to_z w128 (of_z w128 c.args.number))) ≡ c.args.factor *ℤ c.args.number = ap (λ (z : ℤ). to_z w128 (of_z w128 z)) p ∙ to_z-of_z w128 (c.args.factor *ℤ c.args.number) fits in
    let yes : c.is_narrow.result ≡ true = grind (arith, c.if-not-is_narrow.false) in
    (whole, cc (c.unsigned_abs-2.ensures.value, c.is_narrow.ensures, yes))
