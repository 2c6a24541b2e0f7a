use Rattle.std.proofs.Common.{◌^◌, ◌<◌, ap, sym, subst, ◌∙◌, ℤ, ◌*ℤ◌, unsigned_abs, FitsSigned, to_z, of_z}
use Rattle.std.specs.Int.{w128}
use Rattle.std.proofs.lemmas.Int.{to_z-of_z}
use Rattle.spm_placement.proofs.GainLemmas.{product_fits, product_small}
use Rattle.spm_placement.proofs.gaining.product.Goals as goal

pub overflow_mul-result : goal.overflow_mul-result
overflow_mul-result c =
    let left = to_z-of_z w128 c.args.left c.ranges.left in
    let right = to_z-of_z w128 c.args.right c.ranges.right in
    let same = ap (λ a. a *ℤ to_z w128 (of_z w128 c.args.right)) left ∙ ap (λ b. c.args.left *ℤ b) right in
    let P : ℤ → Type 0 = λ z. FitsSigned w128 z in
    subst P (sym same) (product_fits c.args.left c.args.right c.requires.left c.requires.right)

pub returns-clause-value : goal.returns-clause-value
returns-clause-value c =
    let left = to_z-of_z w128 c.args.left c.ranges.left in
    let right = to_z-of_z w128 c.args.right c.ranges.right in
    let same = ap (λ a. a *ℤ to_z w128 (of_z w128 c.args.right)) left ∙ ap (λ b. c.args.left *ℤ b) right in
    ap (λ z. to_z w128 (of_z w128 z)) same ∙ to_z-of_z w128 (c.args.left *ℤ c.args.right) (product_fits c.args.left c.args.right c.requires.left c.requires.right)

pub returns-clause-small : goal.returns-clause-small
returns-clause-small c =
    let left = to_z-of_z w128 c.args.left c.ranges.left in
    let right = to_z-of_z w128 c.args.right c.ranges.right in
    let same = ap (λ a. a *ℤ to_z w128 (of_z w128 c.args.right)) left ∙ ap (λ b. c.args.left *ℤ b) right in
    let value = ap (λ z. to_z w128 (of_z w128 z)) same ∙ to_z-of_z w128 (c.args.left *ℤ c.args.right) (product_fits c.args.left c.args.right c.requires.left c.requires.right) in
    subst (λ (z : ℤ). unsigned_abs z < 2 ^ 110) (sym value) (product_small c.args.left c.args.right c.requires.left c.requires.right)
