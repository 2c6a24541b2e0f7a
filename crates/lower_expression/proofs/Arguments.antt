-- A value that is passed is the first of those that are left.
use Rattle.std.proofs.Common.{◌≡◌, ℕ, suc, ◌+◌, ◌<◌, List, ◌∷◌, map, length, get_or, drop, sym, ap, ◌∙◌, add-one, drop-cons}
use Rattle.high_ir.specs.declared.expression.Expr as exprs
use Rattle.high_ir.specs.declared.object.Base.{Base}
use Rattle.high_ir.specs.View.{expr_of}
use Rattle.lower_definition.specs.Values.{Scope, Share, Passing, operand, then_passed, values_passed}
use Rattle.lower_expression.specs.Behind.{after_passing}

pub values_more : (scope : Scope) (shares : List Share) (arrays : List Base) (xs : List exprs.Expr) (i : ℕ) (x : exprs.Expr) (before behind : Passing) → i < length xs → x ≡ get_or xs i x → ((rest : ℕ → Passing) → after_passing behind (rest behind.free) ≡ after_passing before (then_passed (operand scope shares (expr_of x) before.free) rest)) →
    after_passing behind (values_passed scope shares (map expr_of (drop (i + 1) xs)) arrays behind.free) ≡ after_passing before (values_passed scope shares (map expr_of (drop i xs)) arrays before.free)
values_more scope shares arrays xs i x before behind lt is step =
    step (values_passed scope shares (map expr_of (drop (i + 1) xs)) arrays)
    ∙ ap (λ k. after_passing before (values_passed scope shares (expr_of x ∷ map expr_of (drop k xs)) arrays before.free)) (add-one i)
    ∙ ap (λ y. after_passing before (values_passed scope shares (map expr_of (y ∷ drop (suc i) xs)) arrays before.free)) is
    ∙ ap (λ ys. after_passing before (values_passed scope shares (map expr_of ys) arrays before.free)) (sym (drop-cons xs i x lt))
