-- What is made of expressions, as the code has them.
use Rattle.std.proofs.Common.{◌≡◌, ℕ, ◌+◌, ◌<◌, ◌≤◌, true, false, List, [], ◌∷◌, length, get_or, refl, sym, ap, ◌∙◌, subst, Result, Ok, Err, IfOk}
use Rattle.std.specs.Prelude.{Vec, sum_by}
use Rattle.std.specs.Global.{Global}
use Rattle.std.proofs.lemmas.List.Sums.{get_or-le-sum_by, sum_by-cons}
use Rattle.types_tree.proofs.Rows.{call_view}
use Rattle.types_tree.specs.declared.expression.Callee.{Callee}
use Rattle.types_tree.specs.declared.expression.Expr as exprs
use Rattle.types_tree.specs.View.{expr_of, exprs_of}
use Rattle.types_value.specs.declared.kind.Kind.{Kind as CType}
use Rattle.plan_definition.specs.declared.home.Home.{Home}
use Rattle.plan_definition.specs.declared.purpose.Purpose.{Purpose}
use Rattle.plan_definition.specs.declared.purpose.Purpose.TheVariants.{Value, Effect, Unless, When}
use Rattle.plan_definition.specs.Operators.{convert}
use Rattle.plan_definition.specs.Values as values
use Rattle.plan_definition.specs.Values.{called, changed_by, finished, made, passing, plain}
use Rattle.make_pieces.specs.declared.valued.Valued.{Valued}
use Rattle.make_pieces.specs.View.{valued_of}
use Rattle.make_expression.specs.Makes.{Makes}
use Rattle.make_expression.specs.Sizes.{expr_size, exprs_size}

pub makes_same : (purpose : Purpose) (v : Valued) (p : values.Valued) → valued_of v ≡ p → Makes purpose v p
makes_same purpose v p same = record { code = ap (λ q. q.code) same; whole = λ used. same }

-- what is made, where each value that a call gives is it
pub makes_each : {E : Type 0} (r : Result Valued E) (purpose : Purpose) (p : values.Valued) {P : Valued → Type 0} → IfOk r P → ((v : Valued) → P v → Makes purpose v p) → IfOk r (λ v. Makes purpose v p)
makes_each (Ok v) purpose p h f = f v h
makes_each (Err e) purpose p h f = tt

pub converted_makes : (to : CType) (purpose : Purpose) (a v : Valued) (p : values.Valued) → Makes (plain purpose) a p → valued_of v ≡ finished purpose (changed_by (convert to) (valued_of a)) → Makes purpose v (finished purpose (changed_by (convert to) p))
converted_makes to Value a v p h e = makes_same Value v (changed_by (convert to) p) (e ∙ ap (changed_by (convert to)) (h.whole refl))
converted_makes to Effect a v p h e = record { code = ap (λ q. q.code) e ∙ h.code; whole = λ used. let no_use : true ≡ false = used in cc }
converted_makes to (Unless depth) a v p h e = makes_same (Unless depth) v (finished (Unless depth) (changed_by (convert to) p)) (e ∙ ap (λ q. finished (Unless depth) (changed_by (convert to) q)) (h.whole refl))
converted_makes to (When depth) a v p h e = makes_same (When depth) v (finished (When depth) (changed_by (convert to) p)) (e ∙ ap (λ q. finished (When depth) (changed_by (convert to) q)) (h.whole refl))

-- what is made of an expression that is the same
pub made_at : (homes : List Home) (purpose : Purpose) (e same : exprs.Expr) (k : ℕ) (v : Valued) → e ≡ same → Makes purpose v (made homes purpose (expr_of same) k) → Makes purpose v (made homes purpose (expr_of e) k)
made_at homes purpose e same k v is h = subst (λ x. Makes purpose v (made homes purpose (expr_of x) k)) (sym is) h

-- a call, by its arguments
pub made_of_call : (homes : List Home) (purpose : Purpose) (e : exprs.Expr) (callee : Callee) (v : Vec exprs.Expr Global) (at k : ℕ) → e ≡ exprs.Call callee v at →
    made homes purpose (expr_of e) k ≡ finished purpose (called purpose callee k (passing homes (exprs_of v.items) k))
made_of_call homes purpose e callee v at k is = ap (λ x. made homes purpose (expr_of x) k) is ∙ ap (λ x. made homes purpose x k) (call_view callee v at)

pub size_of_call : (e : exprs.Expr) (callee : Callee) (v : Vec exprs.Expr Global) (at : ℕ) (xs : List exprs.Expr) → e ≡ exprs.Call callee v at → xs ≡ v.items → expr_size (expr_of e) ≡ exprs_size (exprs_of xs) + 1
size_of_call e callee v at xs is read = ap (λ x. expr_size (expr_of x)) is ∙ ap expr_size (call_view callee v at) ∙ ap (λ ys. exprs_size (exprs_of ys) + 1) (sym read)

exprs_size-sum : (xs : List exprs.Expr) → exprs_size (exprs_of xs) ≡ sum_by (λ e. expr_size (expr_of e)) xs
exprs_size-sum [] = refl
exprs_size-sum (x ∷ xs) = ap (λ n. expr_size (expr_of x) + n) (exprs_size-sum xs) ∙ sym (sum_by-cons (λ e. expr_size (expr_of e)) x xs)

-- the expressions of a list are no larger than it
pub size_at : (xs : List exprs.Expr) (i : ℕ) (e : exprs.Expr) → i < length xs → e ≡ get_or xs i e → expr_size (expr_of e) ≤ exprs_size (exprs_of xs)
size_at xs i e lt is =
    subst (λ x. expr_size (expr_of x) ≤ exprs_size (exprs_of xs)) (sym is)
    (subst (λ n. expr_size (expr_of (get_or xs i e)) ≤ n) (sym (exprs_size-sum xs)) (get_or-le-sum_by (λ e. expr_size (expr_of e)) xs i e lt))
