-- The labels among items, as one walk meets them.
use Rattle.std.specs.Prelude.{ℕ, Bool, true, false, List, [], Option, Some, None}
use Rattle.c_tree.specs.Tree.{Label, Case, Default}
use Rattle.c_tree.specs.View.{label_of}
use Rattle.c_tree.specs.declared.statement.Item as items
use Rattle.types_rules.specs.Constants.{constant_word}
use Rattle.types_rules.specs.ExpressionRules.{when}
use Rattle.types_rules.specs.Scope.{Around, or_else, with_number}
use Rattle.types_rules.specs.Sights.{fault_at, first_fault, value_nodes}
use Rattle.types_rules.specs.StatementRules.{case_rule}
use Rattle.types_rules.specs.declared.fault.Fault.{Fault}
use Rattle.types_rules.specs.declared.fault.Rule.{Rule}
use Rattle.types_rules.specs.declared.fault.Rule.TheVariants as rules

-- the words of the labels so far, each once, and whether `default` is one of the labels
pub record Seen : Type 0 where
  pub words : List ℕ
  pub default : Bool

abbrev pub no_labels : Seen
no_labels = record { words = []; default = false }

abbrev pub with_constant : Option ℕ → List ℕ → List ℕ
with_constant None words = words
with_constant (Some word) words = with_number words word

abbrev pub with_label : Label ℕ → Seen → Seen
with_label (Case value at) seen = record { words = with_constant (constant_word value) seen.words; default = seen.default }
with_label (Default at) seen = record { words = seen.words; default = true }

-- the rule that fails at a label behind these
abbrev pub rule_among : Label ℕ → Seen → Option Rule
rule_among (Case value at) seen = case_rule (constant_word value) seen.words
rule_among (Default at) seen = when seen.default rules.Label

abbrev pub with_item : items.Item → Seen → Seen
with_item (items.Declaration declaration) seen = seen
with_item (items.Statement statement) seen = seen
with_item (items.Restriction pragma) seen = seen
with_item (items.Label label) seen = with_label (label_of label) seen

abbrev pub item_rule : items.Item → Seen → Option Rule
item_rule (items.Declaration declaration) seen = None
item_rule (items.Statement statement) seen = None
item_rule (items.Restriction pragma) seen = None
item_rule (items.Label label) seen = rule_among (label_of label) seen

-- the first fault in a label at which this rule fails by itself
abbrev pub label_fault : Option Rule → Label ℕ → Around → Option Fault
label_fault rule (Case value at) a = or_else (fault_at rule at) (first_fault (value_nodes value a))
label_fault rule (Default at) a = fault_at rule at
