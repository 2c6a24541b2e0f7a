-- Statements and calls whose parts the code keeps in a `Vec`.
use Rattle.std.proofs.Common.{◌≡◌, ℕ, Bool, true, List, ap, sym, ◌∙◌}
use Rattle.std.specs.Prelude.{Vec}
use Rattle.std.specs.Global.{Global}
use Rattle.types_tree.proofs.Rows.{block_view, call_view, switch_view}
use Rattle.types_tree.specs.View.{expr_of, exprs_of, items_of, statement_of}
use Rattle.types_tree.specs.declared.expression.Callee.{Callee}
use Rattle.types_tree.specs.declared.expression.Expr as exprs
use Rattle.types_tree.specs.declared.statement.Item as items
use Rattle.types_tree.specs.declared.statement.Statement as statements
use Rattle.types_tree.specs.declared.variable.Variable.{Variable}
use Rattle.meaning_semantics.specs.State.{State, needed, then_do}
use Rattle.meaning_semantics.specs.Statements.{Source, entered, evaluated, has_case, out_of_switch, run, run_from, run_items}
use Rattle.meaning_semantics.specs.Values.{Calls, called, value, values}

pub call_value : (variables : List Variable) (call : Calls) (e : exprs.Expr) (callee : Callee) (v : Vec exprs.Expr Global) (at : ℕ) (xs : List exprs.Expr) (used : Bool) (st : State) → e ≡ exprs.Call callee v at → xs ≡ v.items →
    value variables call (expr_of e) used st ≡ then_do (then_do (values variables call (exprs_of xs) st) (called call callee at)) (needed used at)
call_value variables call e callee v at xs used st same read =
    ap (λ e. value variables call (expr_of e) used st) same ∙ ap (λ e. value variables call e used st) (call_view callee v at)
    ∙ ap (λ ys. then_do (then_do (values variables call (exprs_of ys) st) (called call callee at)) (needed used at)) (sym read)

module _ (source : Source) (call : Calls) where
  pub block_run : (s : statements.Statement) (v : Vec items.Item Global) (at : ℕ) (xs : List items.Item) (st : State) → s ≡ statements.Block v at → xs ≡ v.items →
      run source call (statement_of s) st ≡ run_items source call (items_of xs) (entered (items_of xs) st)
  block_run s v at xs st same read =
      ap (λ s. run source call (statement_of s) st) same ∙ ap (λ s. run source call s st) (block_view v at)
      ∙ ap (λ ys. run_items source call (items_of ys) (entered (items_of ys) st)) (sym read)

  pub switch_run : (s : statements.Statement) (test : exprs.Expr) (v : Vec items.Item Global) (at : ℕ) (xs : List items.Item) (st : State) → s ≡ statements.Switch test v at → xs ≡ v.items →
      run source call (statement_of s) st ≡ then_do (evaluated source call (expr_of test) true st) (λ word st1. then_do (run_from source call (has_case word (items_of xs)) word (items_of xs) (entered (items_of xs) st1)) out_of_switch)
  switch_run s test v at xs st same read =
      ap (λ s. run source call (statement_of s) st) same ∙ ap (λ s. run source call s st) (switch_view test v at)
      ∙ ap (λ ys. then_do (evaluated source call (expr_of test) true st) (λ word st1. then_do (run_from source call (has_case word (items_of ys)) word (items_of ys) (entered (items_of ys) st1)) out_of_switch)) (sym read)
