-- Shares of several expressions.
use Rattle.std.proofs.Common.{◌≡◌, ℕ, suc, ◌+◌, ◌<◌, List, [], ◌∷◌, ◌++◌, map, length, get_or, drop, refl, sym, ap, ◌∙◌, add-one, drop-cons}
use Rattle.high_ir.specs.declared.expression.Expr as exprs
use Rattle.high_ir.specs.View.{expr_of}
use Rattle.lower_definition.specs.Values.{Scope, Scaled, Share, scaled_in, scaled_in_all, shared, shares_from, with_share}

pub shares_append : (t : ℕ) (shares : List Share) (xs ys : List Scaled) → shares_from t shares (xs ++ ys) ≡ shares_from t (shares_from t shares xs) ys
shares_append t shares [] ys = refl
shares_append t shares (x ∷ xs) ys = shares_append t (with_share (shared shares x.variable x.scale) x t shares) xs ys

-- one expression more
pub shares_more : (scope : Scope) (t : ℕ) (xs : List exprs.Expr) (i : ℕ) (x : exprs.Expr) (before shares : List Share) → i < length xs → x ≡ get_or xs i x → shares ≡ shares_from t before (scaled_in scope (expr_of x)) →
    shares_from t shares (scaled_in_all scope (map expr_of (drop (i + 1) xs))) ≡ shares_from t before (scaled_in_all scope (map expr_of (drop i xs)))
shares_more scope t xs i x before shares lt is made =
    let rest = scaled_in_all scope (map expr_of (drop (suc i) xs)) in
    ap (λ k. shares_from t shares (scaled_in_all scope (map expr_of (drop k xs)))) (add-one i)
    ∙ ap (λ s. shares_from t s rest) made
    ∙ sym (shares_append t before (scaled_in scope (expr_of x)) rest)
    ∙ ap (λ y. shares_from t before (scaled_in_all scope (map expr_of (y ∷ drop (suc i) xs)))) is
    ∙ ap (λ ys. shares_from t before (scaled_in_all scope (map expr_of ys))) (sym (drop-cons xs i x lt))
