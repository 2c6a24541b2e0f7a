-- What is said of lists that stand within a tree.
use Rattle.std.proofs.Common.{◌≡◌, ap, ℕ, List}
use Rattle.std.specs.Prelude.{◌||◌, Vec}
use Rattle.std.specs.Global.{Global}
use Rattle.types_tree.proofs.Rows.{block_view, call_view, switch_view}
use Rattle.types_tree.specs.View.{expr_of, exprs_of, items_of, statement_of}
use Rattle.types_tree.specs.declared.expression.Callee.{Callee}
use Rattle.types_tree.specs.declared.expression.Expr as exprs
use Rattle.types_tree.specs.declared.statement.Item as items
use Rattle.types_tree.specs.declared.statement.Statement as statements
use Rattle.types_tree.specs.declared.variable.Variable.{Variable}
use Rattle.facts_loops.specs.Changes.{expr_changes, exprs_changes, items_changes, statement_changes}
use Rattle.facts_loops.specs.CountingLoops.{items_loops, statement_loops}

pub call_changes : (object : ℕ) (callee : Callee) (v : Vec exprs.Expr Global) (at : ℕ) → expr_changes object (expr_of (exprs.Call callee v at)) ≡ exprs_changes object (exprs_of v.items)
call_changes object callee v at = ap (expr_changes object) (call_view callee v at)

pub block_changes : (object : ℕ) (v : Vec items.Item Global) (at : ℕ) → statement_changes object (statement_of (statements.Block v at)) ≡ items_changes object (items_of v.items)
block_changes object v at = ap (statement_changes object) (block_view v at)

pub switch_changes : (object : ℕ) (test : exprs.Expr) (v : Vec items.Item Global) (at : ℕ) → statement_changes object (statement_of (statements.Switch test v at)) ≡ (expr_changes object (expr_of test) || items_changes object (items_of v.items))
switch_changes object test v at = ap (statement_changes object) (switch_view test v at)

pub block_loops : (variables : List Variable) (v : Vec items.Item Global) (at : ℕ) → statement_loops variables (statement_of (statements.Block v at)) ≡ items_loops variables (items_of v.items)
block_loops variables v at = ap (statement_loops variables) (block_view v at)

pub switch_loops : (variables : List Variable) (test : exprs.Expr) (v : Vec items.Item Global) (at : ℕ) → statement_loops variables (statement_of (statements.Switch test v at)) ≡ items_loops variables (items_of v.items)
switch_loops variables test v at = ap (statement_loops variables) (switch_view test v at)
