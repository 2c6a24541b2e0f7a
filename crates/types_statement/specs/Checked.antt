-- What the answers of the checker say.
use Rattle.std.specs.Prelude.{◌≡◌, ℕ, Bool, false, Option, None}
use Rattle.c_tree.specs.Named.{map_option}
use Rattle.c_tree.specs.Tree.{Expr, ForStart, Statement, Items}
use Rattle.c_tree.specs.View.{declaration_of, label_of, statement_of as source_of}
use Rattle.c_tree.specs.declared.statement.Item as sources
use Rattle.types_tree.specs.Tree as typed
use Rattle.types_tree.specs.View.{expr_of, items_of, start_of, statement_of, with_item}
use Rattle.types_value.specs.Kinds.{is_void, promoted}
use Rattle.types_value.specs.declared.kind.Kind.{Kind}
use Rattle.types_rules.specs.DeclarationRules.{after_declaration}
use Rattle.types_rules.specs.ExpressionRules.{when}
use Rattle.types_rules.specs.Scope.{Around, or_else}
use Rattle.types_rules.specs.Sights.{declaration_nodes, fault_at, first_fault, items_nodes, option_nodes, start_nodes, value_nodes}
use Rattle.types_rules.specs.StatementRules.{Within, after, after_items, after_start, is_void_option}
use Rattle.types_rules.specs.Types.{kind_of}
use Rattle.types_rules.specs.Typing.{typed_declaration, typed_items, typed_label, typed_option, typed_start, typed_statement, typed_value, value_at}
use Rattle.types_rules.specs.declared.fault.Fault.{Fault}
use Rattle.types_rules.specs.declared.fault.Rule.{Rule}
use Rattle.types_rules.specs.declared.fault.Rule.TheVariants as rules
use Rattle.types_statement.specs.Labels.{label_fault}
use Rattle.types_statement.specs.Walk.{fault_among, fault_in}
use Rattle.types_statement.specs.declared.checked.CheckedHead.{CheckedHead}
use Rattle.types_statement.specs.declared.checked.CheckedItem.{CheckedItem}
use Rattle.types_statement.specs.declared.checked.CheckedItems.{CheckedItems}
use Rattle.types_statement.specs.declared.checked.CheckedStatement.{CheckedStatement}
use Rattle.types_statement.specs.declared.checked.CheckedTest.{CheckedTest}

-- a statement's typed form, the first fault in it, and what is visible behind it
pub record IsStatement (r : CheckedStatement) (s : Statement ℕ) (w : Within) (a b : Around) : Type 0 where
  pub statement : statement_of r.statement.value ≡ typed_statement w.result s a
  pub fault : r.fault ≡ fault_in s a w
  pub after : b ≡ after s a

-- what fails at a statement for a void test
abbrev pub void_fault : (void : Bool) → (at : ℕ) → Option Fault
void_fault void at = fault_at (or_else (when void rules.Void) (or_else (when false rules.Jump) (when false rules.Return))) at

-- a test's typed form, what fails at the statement for it, and the first fault in it
pub record IsTest (r : CheckedTest) (e : Expr ℕ) (at : ℕ) (a : Around) : Type 0 where
  pub test : expr_of r.test.value ≡ typed_value e a
  pub own : r.own ≡ void_fault (is_void (kind_of e a)) at
  pub fault : r.fault ≡ first_fault (value_nodes e a)

-- the same of what a `switch` chooses by, which is promoted
pub record IsChoice (r : CheckedTest) (e : Expr ℕ) (at : ℕ) (a : Around) : Type 0 where
  pub test : expr_of r.test.value ≡ value_at (promoted (kind_of e a)) e a
  pub own : r.own ≡ void_fault (is_void (kind_of e a)) at
  pub fault : r.fault ≡ first_fault (value_nodes e a)

-- the same of the parts of the head of a `for`, which are seen behind what stands first in it
pub record IsHead (r : CheckedHead) (first : ForStart ℕ) (test step : Option (Expr ℕ)) (a b : Around) : Type 0 where
  pub start : start_of r.start.start ≡ typed_start first a
  pub start_fault : r.start.fault ≡ first_fault (start_nodes first a)
  pub test_value : map_option expr_of r.test.value ≡ typed_option test (after_start first a)
  pub test_void : r.test.void ≡ is_void_option test (after_start first a)
  pub test_fault : r.test.fault ≡ first_fault (option_nodes test (after_start first a))
  pub step_value : map_option expr_of r.step.value ≡ typed_option step (after_start first a)
  pub step_fault : r.step.fault ≡ first_fault (option_nodes step (after_start first a))
  pub after : b ≡ after_start first a

-- an item's typed form, before others
abbrev pub typed_item : Kind → sources.Item → Around → typed.Items → typed.Items
typed_item result (sources.Declaration declaration) a rest = typed.WithDeclaration (typed_declaration (declaration_of declaration) a) rest
typed_item result (sources.Statement statement) a rest = typed.WithStatement (typed_statement result (source_of statement) a) rest
typed_item result (sources.Restriction pragma) a rest = typed.WithRestriction pragma rest
typed_item result (sources.Label label) a rest = typed.WithLabel (typed_label (label_of label) a) rest

-- the first fault in an item; this rule fails at it by itself where it is a label
abbrev pub item_fault : sources.Item → Option Rule → Around → Within → Option Fault
item_fault (sources.Declaration declaration) rule a w = first_fault (declaration_nodes (declaration_of declaration) a)
item_fault (sources.Statement statement) rule a w = fault_in (source_of statement) a w
item_fault (sources.Restriction pragma) rule a w = None
item_fault (sources.Label label) rule a w = label_fault rule (label_of label) a

abbrev pub after_item : sources.Item → Around → Around
after_item (sources.Declaration declaration) a = after_declaration (declaration_of declaration) a
after_item (sources.Statement statement) a = after (source_of statement) a
after_item (sources.Restriction pragma) a = a
after_item (sources.Label label) a = a

pub record IsItem (r : CheckedItem) (source : sources.Item) (rule : Option Rule) (w : Within) (a b : Around) : Type 0 where
  pub item : with_item r.item typed.NoItem ≡ typed_item w.result source a typed.NoItem
  pub fault : r.fault ≡ item_fault source rule a w
  pub after : b ≡ after_item source a

pub record AreItems (r : CheckedItems) (given : Items ℕ) (w : Within) (a b : Around) : Type 0 where
  pub items : items_of r.items.items ≡ typed_items w.result given a typed.NoItem
  pub fault : r.fault ≡ fault_among given a w
  pub after : b ≡ after_items given a

-- the same, with the fault as the first among the nodes in source order
pub record AreTyped (r : CheckedItems) (given : Items ℕ) (w : Within) (a b : Around) : Type 0 where
  pub items : items_of r.items.items ≡ typed_items w.result given a typed.NoItem
  pub fault : r.fault ≡ first_fault (items_nodes given a w)
  pub after : b ≡ after_items given a
