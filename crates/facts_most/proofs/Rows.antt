-- What lists come to that stand within a tree.
use Rattle.std.proofs.Common.{◌≡◌, ap, ◌+◌, ℕ, List}
use Rattle.std.specs.Prelude.{Vec, Bool, false}
use Rattle.std.specs.Global.{Global}
use Rattle.facts_definitions.specs.Most.{call_most, expr_most, exprs_most, items_most, statement_most}
use Rattle.facts_definitions.specs.Starts.{items_leave, leaves}
use Rattle.facts_definitions.specs.declared.facts.Bounds.{Bounds}
use Rattle.types_tree.proofs.Rows.{block_view, call_view, switch_view}
use Rattle.types_tree.specs.View.{expr_of, exprs_of, items_of, statement_of}
use Rattle.types_tree.specs.declared.expression.Callee.{Callee}
use Rattle.types_tree.specs.declared.expression.Expr as exprs
use Rattle.types_tree.specs.declared.statement.Item as items
use Rattle.types_tree.specs.declared.statement.Statement as statements

pub call_row : (calls : ℕ → ℕ) (callee : Callee) (v : Vec exprs.Expr Global) (at : ℕ) → expr_most calls (expr_of (exprs.Call callee v at)) ≡ 1 + (exprs_most calls (exprs_of v.items) + call_most calls callee)
call_row calls callee v at = ap (expr_most calls) (call_view callee v at)

pub block_row : (bounds : List Bounds) (calls : ℕ → ℕ) (v : Vec items.Item Global) (at : ℕ) → statement_most bounds calls (statement_of (statements.Block v at)) ≡ 1 + items_most bounds calls (items_of v.items)
block_row bounds calls v at = ap (statement_most bounds calls) (block_view v at)

pub switch_row : (bounds : List Bounds) (calls : ℕ → ℕ) (test : exprs.Expr) (v : Vec items.Item Global) (at : ℕ) → statement_most bounds calls (statement_of (statements.Switch test v at)) ≡ 1 + (expr_most calls (expr_of test) + items_most bounds calls (items_of v.items))
switch_row bounds calls test v at = ap (statement_most bounds calls) (switch_view test v at)

pub block_leaves : (own : Bool) (v : Vec items.Item Global) (at : ℕ) → leaves own (statement_of (statements.Block v at)) ≡ items_leave own (items_of v.items)
block_leaves own v at = ap (leaves own) (block_view v at)

pub switch_leaves : (own : Bool) (test : exprs.Expr) (v : Vec items.Item Global) (at : ℕ) → leaves own (statement_of (statements.Switch test v at)) ≡ items_leave false (items_of v.items)
switch_leaves own test v at = ap (leaves own) (switch_view test v at)
