-- A block and a `switch`, by what is known of their parts.
use Rattle.std.proofs.Common.{◌≡◌, refl, ap, ◌∙◌, sym, subst, ℕ, Result, Ok, Err, IfOk}
use Rattle.std.specs.Prelude.{Vec}
use Rattle.std.specs.Global.{Global}
use Rattle.c_tree.specs.Tree.{Statement, NoItem}
use Rattle.c_tree.specs.View.{expr_of as source_of, items_of as source_items, statement_of as source_statement}
use Rattle.c_tree.specs.declared.expression.Expr as exprs
use Rattle.c_tree.specs.declared.statement.Item as sources
use Rattle.c_tree.specs.declared.statement.Statement as statements
use Rattle.c_tree.proofs.Rows.{block_view, switch_view}
use Rattle.types_tree.specs.Tree as typed
use Rattle.types_tree.specs.View.{expr_of, items_of, statement_of}
use Rattle.types_rules.specs.Scope.{Around, entered, left, or_else}
use Rattle.types_rules.specs.StatementRules.{Within, in_switch}
use Rattle.types_statement.specs.Checked.{AreItems, IsChoice, IsStatement}
use Rattle.types_statement.specs.declared.checked.CheckedItems.{CheckedItems}
use Rattle.types_statement.specs.declared.checked.CheckedStatement.{CheckedStatement}
use Rattle.types_statement.specs.declared.checked.CheckedTest.{CheckedTest}

block_is : (given : Vec sources.Item Global) (at : ℕ) (w : Within) (a inside b c : Around) (inner : CheckedItems) (r : CheckedStatement)
    → inside ≡ entered a → AreItems inner (source_items NoItem given.items) w inside b → c ≡ left b
    → statement_of r.statement.value ≡ typed.Block (items_of inner.items.items) at → r.fault ≡ inner.fault
    → IsStatement r (source_statement (statements.Block given at)) w a c
block_is given at w a inside b c inner r e i l s f =
    let P : Statement ℕ → Type 0 = λ x. IsStatement r x w a c in
    let Q : Around → Type 0 = λ x. AreItems inner (source_items NoItem given.items) w x b in
    let h = subst Q e i in
    subst P (sym (block_view given at)) (record {
      statement = s ∙ ap (λ xs. typed.Block xs at) h.items;
      fault = f ∙ h.fault;
      after = l ∙ ap left h.after;
    })

switch_is : (test : exprs.Expr) (given : Vec sources.Item Global) (at : ℕ) (w v : Within) (a inside b c : Around) (choice : CheckedTest) (inner : CheckedItems) (r : CheckedStatement)
    → v ≡ in_switch w → inside ≡ entered a → IsChoice choice (source_of test) at a → AreItems inner (source_items NoItem given.items) v inside b → c ≡ left b
    → statement_of r.statement.value ≡ typed.Switch (expr_of choice.test.value) (items_of inner.items.items) at → r.fault ≡ or_else choice.own (or_else choice.fault inner.fault)
    → IsStatement r (source_statement (statements.Switch test given at)) w a c
switch_is test given at w v a inside b c choice inner r ve e t i l s f =
    let P : Statement ℕ → Type 0 = λ x. IsStatement r x w a c in
    let Q : Around → Type 0 = λ x. AreItems inner (source_items NoItem given.items) v x b in
    let R : Within → Type 0 = λ x. AreItems inner (source_items NoItem given.items) x (entered a) b in
    let h = subst R ve (subst Q e i) in
    subst P (sym (switch_view test given at)) (record {
      statement = s ∙ ap (λ x. typed.Switch x (items_of inner.items.items) at) t.test ∙ rw h.items refl;
      fault = f ∙ rw (t.own, t.fault, h.fault) refl;
      after = l ∙ ap left h.after;
    })

-- the same of what a call gives
pub block_made : {E : Type 0} (given : Vec sources.Item Global) (at : ℕ) (w : Within) (a inside b c : Around) (inner : CheckedItems) (r : Result CheckedStatement E)
    → inside ≡ entered a → AreItems inner (source_items NoItem given.items) w inside b → c ≡ left b
    → IfOk r (λ x. statement_of x.statement.value ≡ typed.Block (items_of inner.items.items) at) → IfOk r (λ x. x.fault ≡ inner.fault)
    → IfOk r (λ x. IsStatement x (source_statement (statements.Block given at)) w a c)
block_made given at w a inside b c inner (Ok r) e i l s f = block_is given at w a inside b c inner r e i l s f
block_made given at w a inside b c inner (Err x) e i l s f = tt

pub switch_made : {E : Type 0} (test : exprs.Expr) (given : Vec sources.Item Global) (at : ℕ) (w v : Within) (a inside b c : Around) (choice : CheckedTest) (inner : CheckedItems) (r : Result CheckedStatement E)
    → v ≡ in_switch w → inside ≡ entered a → IsChoice choice (source_of test) at a → AreItems inner (source_items NoItem given.items) v inside b → c ≡ left b
    → IfOk r (λ x. statement_of x.statement.value ≡ typed.Switch (expr_of choice.test.value) (items_of inner.items.items) at) → IfOk r (λ x. x.fault ≡ or_else choice.own (or_else choice.fault inner.fault))
    → IfOk r (λ x. IsStatement x (source_statement (statements.Switch test given at)) w a c)
switch_made test given at w v a inside b c choice inner (Ok r) ve e t i l s f = switch_is test given at w v a inside b c choice inner r ve e t i l s f
switch_made test given at w v a inside b c choice inner (Err x) ve e t i l s f = tt
