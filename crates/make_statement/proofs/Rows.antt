-- What is said of items that stand within a statement, as the code has them.
use Rattle.std.proofs.Common.{◌≡◌, ℕ, ap, ◌∙◌}
use Rattle.std.specs.Prelude.{Vec}
use Rattle.std.specs.Global.{Global}
use Rattle.types_tree.proofs.Rows.{block_view, switch_view}
use Rattle.types_tree.specs.View.{expr_of, items_of, statement_of}
use Rattle.types_tree.specs.declared.expression.Expr as exprs
use Rattle.types_tree.specs.declared.statement.Item as items
use Rattle.types_tree.specs.declared.statement.Statement as statements
use Rattle.plan_definition.specs.Statements as plans
use Rattle.plan_definition.specs.Statements.{all_planned, continues, items_continue, planned}
use Rattle.types_tree.specs.Tree as c

pub block_continues : (s : statements.Statement) (v : Vec items.Item Global) (at : ℕ) → s ≡ statements.Block v at → continues (statement_of s) ≡ items_continue (items_of v.items)
block_continues s v at is = ap (λ s. continues (statement_of s)) is ∙ ap continues (block_view v at)

pub switch_continues : (s : statements.Statement) (test : exprs.Expr) (v : Vec items.Item Global) (at : ℕ) → s ≡ statements.Switch test v at → continues (statement_of s) ≡ items_continue (items_of v.items)
switch_continues s test v at is = ap (λ s. continues (statement_of s)) is ∙ ap continues (switch_view test v at)

pub block_planned : (plan : plans.Plan) (s : statements.Statement) (v : Vec items.Item Global) (at k : ℕ) (exits : plans.Exits) → s ≡ statements.Block v at → planned plan (statement_of s) k exits ≡ all_planned plan (items_of v.items) k exits
block_planned plan s v at k exits is = ap (λ s. planned plan (statement_of s) k exits) is ∙ ap (λ s. planned plan s k exits) (block_view v at)

pub switch_planned : (plan : plans.Plan) (s : statements.Statement) (test : exprs.Expr) (v : Vec items.Item Global) (at k : ℕ) (exits : plans.Exits) → s ≡ statements.Switch test v at → planned plan (statement_of s) k exits ≡ planned plan (c.Switch (expr_of test) (items_of v.items) at) k exits
switch_planned plan s test v at k exits is = ap (λ s. planned plan (statement_of s) k exits) is ∙ ap (λ s. planned plan s k exits) (switch_view test v at)
