-- Lists of typed trees within a tree, as the code keeps them and as the views have them.
use Rattle.std.proofs.Common.{◌≡◌, ℕ, refl, ap, ◌∙◌}
use Rattle.std.specs.Prelude.{Vec}
use Rattle.std.specs.Global.{Global}
use mathlib.Core.Former.{Count}
use Rattle.types_tree.specs.declared.expression.Callee.{Callee}
use Rattle.types_tree.specs.declared.expression.Expr as exprs
use Rattle.types_tree.specs.declared.statement.Item as items
use Rattle.types_tree.specs.declared.statement.Statement as statements
use Rattle.types_tree.specs.Tree.{Call, WithExpr, Block, Switch}
use Rattle.types_tree.specs.View.{expr_of, exprs_of, exprs_row, items_of, items_row, statement_of, with_item}

exprs_row-items : (m : _) (k : exprs.Row_of-Expr m) → exprs_row k ≡ exprs_of (exprs.items-the_row-Expr m k)
exprs_row-items m exprs.end_of-Expr = refl
exprs_row-items m (exprs.more_of-Expr e rest) = ap (WithExpr (expr_of e)) (exprs_row-items _ rest)

abbrev arguments_row : exprs.Expr → (n : Count) × exprs.Row_of-Expr n
arguments_row (exprs.Call' callee shape row at) = (_, row)
arguments_row _ = (_, exprs.end_of-Expr)

pub call_view : (callee : Callee) (v : Vec exprs.Expr Global) (at : ℕ) → expr_of (exprs.Call callee v at) ≡ Call callee (exprs_of v.items) at
call_view callee v at =
    let row = arguments_row (exprs.Call callee v at) in
    ap (λ arguments. Call callee arguments at) (exprs_row-items row.0 row.1 ∙ ap exprs_of (exprs.items_hidden-the_row-Expr-0 v))

items_row-items : (m : _) (k : statements.Row_of-Item m) → items_row k ≡ items_of (statements.items-the_row-Item m k)
items_row-items m statements.end_of-Item = refl
items_row-items m (statements.more_of-Item item rest) = ap (with_item item) (items_row-items _ rest)

abbrev block_row : statements.Statement → (n : Count) × statements.Row_of-Item n
block_row (statements.Block' shape row at) = (_, row)
block_row _ = (_, statements.end_of-Item)

pub block_view : (v : Vec items.Item Global) (at : ℕ) → statement_of (statements.Block v at) ≡ Block (items_of v.items) at
block_view v at =
    let row = block_row (statements.Block v at) in
    ap (λ items. Block items at) (items_row-items row.0 row.1 ∙ ap items_of (statements.items_hidden-the_row-Item-0 v))

abbrev switch_row : statements.Statement → (n : Count) × statements.Row_of-Item n
switch_row (statements.Switch' test shape row at) = (_, row)
switch_row _ = (_, statements.end_of-Item)

pub switch_view : (test : exprs.Expr) (v : Vec items.Item Global) (at : ℕ) → statement_of (statements.Switch test v at) ≡ Switch (expr_of test) (items_of v.items) at
switch_view test v at =
    let row = switch_row (statements.Switch test v at) in
    ap (λ items. Switch (expr_of test) items at) (items_row-items row.0 row.1 ∙ ap items_of (statements.items_hidden-the_row-Item-0 v))
