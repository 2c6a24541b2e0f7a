-- Lists of trees within a tree, as the code keeps them and as the views have them; one more at the end.
use Rattle.std.proofs.Common.{◌≡◌, ℕ, List, [], ◌∷◌, ◌++◌, refl, ap, ◌∙◌}
use Rattle.std.specs.Prelude.{Vec}
use Rattle.std.specs.Global.{Global}
use mathlib.Core.Former.{Count}
use Rattle.c_tree.specs.declared.expression.NameId.{NameId}
use Rattle.c_tree.specs.declared.expression.Expr as exprs
use Rattle.c_tree.specs.declared.statement.Item as items
use Rattle.c_tree.specs.declared.statement.Statement as statements
use Rattle.c_tree.specs.Tree.{Call, Exprs, NoExpr, AndExpr, Items, NoItem, Block, Switch, Row, Then}
use Rattle.c_tree.specs.View.{expr_of, exprs_row, exprs_of, row_of, and_item, items_row, items_of, statement_of}

pub exprs_push : (front : Exprs ℕ) (es : List exprs.Expr) (e : exprs.Expr) → exprs_of front (es ++ e ∷ []) ≡ AndExpr (exprs_of front es) (expr_of e)
exprs_push front [] e = refl
exprs_push front (x ∷ es) e = exprs_push (AndExpr front (expr_of x)) es e

pub row_push : {A B : Type 0} (g : A → B) (front : Row B) (xs : List A) (x : A) → row_of g front (xs ++ x ∷ []) ≡ Then (row_of g front xs) (g x)
row_push g front [] x = refl
row_push g front (y ∷ xs) x = row_push g (Then front (g y)) xs x

pub items_push : (front : Items ℕ) (xs : List items.Item) (x : items.Item) → items_of front (xs ++ x ∷ []) ≡ and_item (items_of front xs) x
items_push front [] x = refl
items_push front (y ∷ xs) x = items_push (and_item front y) xs x

exprs_row-items : (m : _) (k : exprs.Row_of-Expr m) (front : Exprs ℕ) → exprs_row front k ≡ exprs_of front (exprs.items-the_row-Expr m k)
exprs_row-items m exprs.end_of-Expr front = refl
exprs_row-items m (exprs.more_of-Expr e rest) front = exprs_row-items _ rest (AndExpr front (expr_of e))

abbrev arguments_row : exprs.Expr → (n : Count) × exprs.Row_of-Expr n
arguments_row (exprs.Call' function shape row at) = (_, row)
arguments_row _ = (_, exprs.end_of-Expr)

pub call_view : (function : NameId) (v : Vec exprs.Expr Global) (at : ℕ) → expr_of (exprs.Call function v at) ≡ Call function.0 (exprs_of NoExpr v.items) at
call_view function v at =
    let row = arguments_row (exprs.Call function v at) in
    ap (λ arguments. Call function.0 arguments at) (exprs_row-items row.0 row.1 NoExpr ∙ ap (exprs_of NoExpr) (exprs.items_hidden-the_row-Expr-0 v))

items_row-items : (m : _) (k : statements.Row_of-Item m) (front : Items ℕ) → items_row front k ≡ items_of front (statements.items-the_row-Item m k)
items_row-items m statements.end_of-Item front = refl
items_row-items m (statements.more_of-Item item rest) front = items_row-items _ rest (and_item front item)

abbrev block_row : statements.Statement → (n : Count) × statements.Row_of-Item n
block_row (statements.Block' shape row at) = (_, row)
block_row _ = (_, statements.end_of-Item)

pub block_view : (v : Vec items.Item Global) (at : ℕ) → statement_of (statements.Block v at) ≡ Block (items_of NoItem v.items) at
block_view v at =
    let row = block_row (statements.Block v at) in
    ap (λ items. Block items at) (items_row-items row.0 row.1 NoItem ∙ ap (items_of NoItem) (statements.items_hidden-the_row-Item-0 v))

abbrev switch_row : statements.Statement → (n : Count) × statements.Row_of-Item n
switch_row (statements.Switch' test shape row at) = (_, row)
switch_row _ = (_, statements.end_of-Item)

pub switch_view : (test : exprs.Expr) (v : Vec items.Item Global) (at : ℕ) → statement_of (statements.Switch test v at) ≡ Switch (expr_of test) (items_of NoItem v.items) at
switch_view test v at =
    let row = switch_row (statements.Switch test v at) in
    ap (λ items. Switch (expr_of test) items at) (items_row-items row.0 row.1 NoItem ∙ ap (items_of NoItem) (statements.items_hidden-the_row-Item-0 v))
