-- Calls in lists that stand within a tree.
use Rattle.std.proofs.Common.{◌≡◌, ap, ◌++◌, ℕ}
use Rattle.std.specs.Prelude.{Vec}
use Rattle.std.specs.Global.{Global}
use Rattle.types_calls.specs.Calls.{called, expr_calls, exprs_calls, items_calls, statement_calls}
use Rattle.types_tree.proofs.Rows.{block_view, call_view, switch_view}
use Rattle.types_tree.specs.View.{expr_of, exprs_of, items_of, statement_of}
use Rattle.types_tree.specs.declared.expression.Callee.{Callee}
use Rattle.types_tree.specs.declared.expression.Expr as exprs
use Rattle.types_tree.specs.declared.statement.Item as items
use Rattle.types_tree.specs.declared.statement.Statement as statements

pub call_calls : (callee : Callee) (v : Vec exprs.Expr Global) (at : ℕ) → expr_calls (expr_of (exprs.Call callee v at)) ≡ called callee ++ exprs_calls (exprs_of v.items)
call_calls callee v at = ap expr_calls (call_view callee v at)

pub block_calls : (v : Vec items.Item Global) (at : ℕ) → statement_calls (statement_of (statements.Block v at)) ≡ items_calls (items_of v.items)
block_calls v at = ap statement_calls (block_view v at)

pub switch_calls : (test : exprs.Expr) (v : Vec items.Item Global) (at : ℕ) → statement_calls (statement_of (statements.Switch test v at)) ≡ expr_calls (expr_of test) ++ items_calls (items_of v.items)
switch_calls test v at = ap statement_calls (switch_view test v at)
