use Rattle.std.proofs.Common.{rules, ap, sym, subst, ◌∙◌, ℤ, ◌*ℤ◌, ◌/◌, FitsSigned, w32, w64, to_z, of_z}
use Rattle.std.proofs.lemmas.Int.{to_z-of_z}
use Rattle.rv_core.proofs.Products.{product-fits}
use Rattle.rv_core.proofs.arithmetic.high_product.Goals as goal

pub overflow_mul-from : goal.overflow_mul-from
overflow_mul-from c =
    let wide : FitsSigned w64 c.from.result = search rules in
    let left = to_z-of_z w64 c.from.result wide ∙ c.from.ensures ∙ to_z-of_z w32 c.args.x c.ranges.x in
    let right = to_z-of_z w64 c.args.y c.ranges.y in
    let product = ap (λ a. a *ℤ to_z w64 (of_z w64 c.args.y)) left ∙ ap (λ b. c.args.x *ℤ b) right in
    let P : ℤ → Type 0 = λ z. FitsSigned w64 z in
    subst P (sym product) (product-fits c.args.x c.args.y c.ranges.x c.requires)

pub returns : goal.returns
returns c =
    let wide : FitsSigned w64 c.from.result = search rules in
    let left = to_z-of_z w64 c.from.result wide ∙ c.from.ensures ∙ to_z-of_z w32 c.args.x c.ranges.x in
    let right = to_z-of_z w64 c.args.y c.ranges.y in
    let product = ap (λ a. a *ℤ to_z w64 (of_z w64 c.args.y)) left ∙ ap (λ b. c.args.x *ℤ b) right in
    let fits = product-fits c.args.x c.args.y c.ranges.x c.requires in
    ap (λ n. n / 4294967296) (c.cast_unsigned.ensures ∙ ap (λ z. of_z w64 (to_z w64 (of_z w64 z))) product ∙ ap (of_z w64) (to_z-of_z w64 (c.args.x *ℤ c.args.y) fits))
