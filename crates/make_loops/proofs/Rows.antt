-- The loops in lists that stand within a tree.
use Rattle.std.proofs.Common.{◌≡◌, ap, ℕ}
use Rattle.std.specs.Prelude.{Vec}
use Rattle.std.specs.Global.{Global}
use Rattle.types_tree.proofs.Rows.{block_view, switch_view}
use Rattle.types_tree.specs.View.{items_of, statement_of}
use Rattle.types_tree.specs.declared.expression.Expr as exprs
use Rattle.types_tree.specs.declared.statement.Item as items
use Rattle.types_tree.specs.declared.statement.Statement as statements
use Rattle.make_loops.specs.Numbers.{items_numbers, statement_numbers}

pub block_numbers : (v : Vec items.Item Global) (at : ℕ) → statement_numbers (statement_of (statements.Block v at)) ≡ items_numbers (items_of v.items)
block_numbers v at = ap statement_numbers (block_view v at)

pub switch_numbers : (test : exprs.Expr) (v : Vec items.Item Global) (at : ℕ) → statement_numbers (statement_of (statements.Switch test v at)) ≡ items_numbers (items_of v.items)
switch_numbers test v at = ap statement_numbers (switch_view test v at)
