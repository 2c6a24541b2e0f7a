use Rattle.std.proofs.Common.{◌≡◌, ◌+◌, max, arith, sym, ap, ◌∙◌, map}
use Rattle.std.specs.Prelude.{nat_le}
use Rattle.wcc_base.specs.Budgets.{most_depth}
use Rattle.high_ir.specs.Size.{expr_depth, greatest}
use Rattle.high_ir.specs.View.{expr_of, function_of}
use Rattle.inliner.specs.Measures.{size_into, sizes_of}
use Rattle.inliner.specs.View.{site_of}
use Rattle.inliner.proofs.Fitted.{by_depth, too_large, too_many}
use Rattle.inliner.proofs.walking.fits.Goals as goal

pub returns-then-sizes-limit : goal.returns-then-sizes-limit
returns-then-sizes-limit c =
    sym (too_large c.args.limit c.args.used c.args.around (site_of c.args.call.now) (function_of c.args.function.now) (omega (arith, c.if-sizes-limit.true, ap (λ s. s.whole.nodes) c.requires)))

pub returns-then-from : goal.returns-then-from
returns-then-from c =
    let body = c.placed-body.ensures ∙ ap (λ s. size_into s c.args.call.now.into) c.requires in
    sym (too_many c.args.limit c.args.used c.args.around (site_of c.args.call.now) (function_of c.args.function.now) (omega (arith, c.if-from.true, ap (λ m. m.operations) body)))

pub returns : goal.returns
returns c =
    let s = site_of c.args.call.now in
    let h = function_of c.args.function.now in
    let body = c.placed-body.ensures ∙ ap (λ z. size_into z c.args.call.now.into) c.requires in
    let deep : c.from-6.result + c.from-7.result + 2 ≡ c.args.around + max (greatest expr_depth (map expr_of c.args.call.now.values.now)) (size_into (sizes_of h) c.args.call.now.into).depth + 2 = omega (arith, ap (λ m. m.depth) c.in_ok-values.ensures, ap (λ m. m.depth) body) in
    ap (λ n. nat_le n most_depth) deep
    ∙ by_depth c.args.limit c.args.used c.args.around s h
    (omega (arith, c.if-sizes-limit.false, ap (λ z. z.whole.nodes) c.requires))
    (omega (arith, c.if-from.false, ap (λ m. m.operations) body))
    (omega (arith, c.if-used-gt-MOST_LOCALS.false, c.if-variables-used.false))
