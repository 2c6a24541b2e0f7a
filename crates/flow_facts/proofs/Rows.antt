-- The sites in lists that stand within a tree.
use Rattle.std.proofs.Common.{◌≡◌, refl, ap, ◌<◌, ◌≤◌, ℕ, zero, suc, List, [], ◌∷◌, length, map, get_or, ◌∙◌, sym, arith}
use Rattle.std.specs.Prelude.{Vec, Some, None, slice_get}
use Rattle.std.specs.Global.{Global}
use Rattle.facts_definitions.specs.Sites.{count_exprs, items_sites, statement_sites}
use Rattle.types_tree.proofs.Rows.{block_view, switch_view}
use Rattle.types_tree.specs.View.{exprs_of, function_of, items_of, statement_of}
use Rattle.types_tree.specs.declared.expression.Expr as exprs
use Rattle.types_tree.specs.declared.external.Function as functions
use Rattle.types_tree.specs.declared.statement.Item as items
use Rattle.types_tree.specs.declared.statement.Statement as statements
use Rattle.types_tree.specs.declared.variable.Variable.{Variable}

pub block_sites : (variables : List Variable) (v : Vec items.Item Global) (at : ℕ) → statement_sites variables (statement_of (statements.Block v at)) ≡ items_sites variables (items_of v.items)
block_sites variables v at = ap (statement_sites variables) (block_view v at)

pub switch_sites : (variables : List Variable) (test : exprs.Expr) (v : Vec items.Item Global) (at : ℕ) → statement_sites variables (statement_of (statements.Switch test v at)) ≡ items_sites variables (items_of v.items)
switch_sites variables test v at = ap (statement_sites variables) (switch_view test v at)

pub count_all : (es : List exprs.Expr) → count_exprs (exprs_of es) ≡ length es
count_all [] = refl
count_all (e ∷ es) = let h = count_all es in omega (arith, h)

pub function_at : (fs gs : List functions.Function) (n : ℕ) (function : functions.Function) → gs ≡ fs → n < length gs → function ≡ get_or gs n function → slice_get (map function_of fs) n ≡ Some (function_of function)
function_at fs gs n function e h k = ap (λ xs. slice_get (map function_of xs) n) (sym e) ∙ at gs n function h k
  where
    at : (gs : List functions.Function) (n : ℕ) (function : functions.Function) → n < length gs → function ≡ get_or gs n function → slice_get (map function_of gs) n ≡ Some (function_of function)
    at [] n function h k = absurd (omega (arith, h))
    at (x ∷ gs) zero function h k = ap (λ y. Some (function_of y)) (sym k)
    at (x ∷ gs) (suc n) function h k = at gs n function (omega (arith, h)) k

pub no_function : (fs gs : List functions.Function) (n : ℕ) → gs ≡ fs → length gs ≤ n → slice_get (map function_of fs) n ≡ None
no_function fs gs n e h = ap (λ xs. slice_get (map function_of xs) n) (sym e) ∙ past gs n h
  where
    past : (gs : List functions.Function) (n : ℕ) → length gs ≤ n → slice_get (map function_of gs) n ≡ None
    past [] zero h = refl
    past [] (suc n) h = refl
    past (x ∷ gs) zero h = absurd (omega (arith, h))
    past (x ∷ gs) (suc n) h = past gs n (omega (arith, h))
