-- The rules on statements and labels (C11 6.8), and what a statement leaves visible.
use Rattle.std.specs.Prelude.{ℕ, Bool, true, false, not, List, [], ◌∷◌, Option, Some, None, is_some}
use Rattle.c_tree.specs.Tree.{Expr, Label, Case, Default, ForStart, NoStart, StartValue, StartDeclaration, Statement, Block, Empty, Evaluate, Marker, If, IfElse, While, Do, For, Switch, Break, Continue, Return, Items, NoItem, AndDeclaration, AndStatement, AndRestriction, AndLabel}
use Rattle.types_value.specs.Kinds.{is_void}
use Rattle.types_value.specs.declared.kind.Kind.{Kind}
use Rattle.types_rules.specs.Constants.{constant_word}
use Rattle.types_rules.specs.DeclarationRules.{after_declaration}
use Rattle.types_rules.specs.ExpressionRules.{differ, when}
use Rattle.types_rules.specs.Scope.{Around, entered, is_among, left, or_else, with_loop, with_marker}
use Rattle.types_rules.specs.Types.{kind_of}
use Rattle.types_rules.specs.declared.fault.Rule.{Rule}
use Rattle.types_rules.specs.declared.fault.Rule.TheVariants as rules

-- what a statement stands in: the type of its function's result, whether it is in a loop, and in a loop or switch
pub record Within : Type 0 where
  pub result : Kind
  pub loop : Bool
  pub exit : Bool

abbrev pub in_function : Kind → Within
in_function result = record { result = result; loop = false; exit = false }

abbrev pub in_loop : Within → Within
in_loop w = record { result = w.result; loop = true; exit = true }

abbrev pub in_switch : Within → Within
in_switch w = record { result = w.result; loop = w.loop; exit = true }

-- what the head of a `for` declares is seen in the head and in the body
abbrev pub after_start : ForStart ℕ → Around → Around
after_start NoStart a = a
after_start (StartValue value) a = a
after_start (StartDeclaration declaration) a = after_declaration declaration a

-- within a `for`, behind what stands first in its head
abbrev pub within_for : ForStart ℕ → Around → Around
within_for start a = after_start start (with_loop (entered a))

abbrev mutual
  pub after : Statement ℕ → Around → Around
  after (Block items at) a = left (after_items items (entered a))
  after (Empty at) a = a
  after (Evaluate value at) a = a
  after (Marker pragma) a = with_marker a
  after (If test first at) a = after first a
  after (IfElse test first second at) a = after second (after first a)
  after (While bound test body at) a = after body (with_loop a)
  after (Do bound body test at) a = after body (with_loop a)
  after (For bound start test step body at) a = left (after body (within_for start a))
  after (Switch test items at) a = left (after_items items (entered a))
  after (Break at) a = a
  after (Continue at) a = a
  after (Return value at) a = a

  pub after_items : Items ℕ → Around → Around
  after_items NoItem a = a
  after_items (AndDeclaration front declaration) a = after_declaration declaration (after_items front a)
  after_items (AndStatement front statement) a = after statement (after_items front a)
  after_items (AndRestriction front pragma) a = after_items front a
  after_items (AndLabel front label) a = after_items front a

abbrev pub is_void_option : Option (Expr ℕ) → Around → Bool
is_void_option None a = false
is_void_option (Some value) a = is_void (kind_of value a)

-- rule 8: the value of a test is used, and that of a `return`
abbrev pub tests_void : Statement ℕ → Around → Bool
tests_void (If test first at) a = is_void (kind_of test a)
tests_void (IfElse test first second at) a = is_void (kind_of test a)
tests_void (While bound test body at) a = is_void (kind_of test (with_loop a))
tests_void (Do bound body test at) a = is_void (kind_of test (after body (with_loop a)))
tests_void (For bound start test step body at) a = is_void_option test (within_for start a)
tests_void (Switch test items at) a = is_void (kind_of test a)
tests_void (Return value at) a = is_void_option value a
tests_void _ a = false

-- rule 11: `break` is in a loop or switch, `continue` in a loop
abbrev pub jumps_nowhere : Statement ℕ → Within → Bool
jumps_nowhere (Break at) w = not w.exit
jumps_nowhere (Continue at) w = not w.loop
jumps_nowhere _ w = false

-- rule 12: `return` has a value exactly where the function isn't void
abbrev pub returns_wrongly : Statement ℕ → Within → Bool
returns_wrongly (Return value at) w = differ (is_some value) (not (is_void w.result))
returns_wrongly _ w = false

-- the least rule that fails at a statement
abbrev pub statement_rule : Statement ℕ → Around → Within → Option Rule
statement_rule s a w = or_else (when (tests_void s a) rules.Void) (or_else (when (jumps_nowhere s w) rules.Jump) (when (returns_wrongly s w) rules.Return))

abbrev pub with_word : Option ℕ → List ℕ → List ℕ
with_word None words = words
with_word (Some word) words = word ∷ words

-- the words of the labels among items: all are of the promoted type, to which a conversion leaves a word as it is
abbrev pub label_words : Items ℕ → List ℕ
label_words NoItem = []
label_words (AndDeclaration front declaration) = label_words front
label_words (AndStatement front statement) = label_words front
label_words (AndRestriction front pragma) = label_words front
label_words (AndLabel front (Case value at)) = with_word (constant_word value) (label_words front)
label_words (AndLabel front (Default at)) = label_words front

abbrev pub has_default : Items ℕ → Bool
has_default NoItem = false
has_default (AndDeclaration front declaration) = has_default front
has_default (AndStatement front statement) = has_default front
has_default (AndRestriction front pragma) = has_default front
has_default (AndLabel front (Case value at)) = has_default front
has_default (AndLabel front (Default at)) = true

abbrev pub case_rule : Option ℕ → List ℕ → Option Rule
case_rule None words = Some rules.Constant
case_rule (Some word) words = when (is_among word words) rules.Label

-- rules 4 and 10: a label is a constant, and none of those before it is equal
abbrev pub label_rule : Label ℕ → (front : Items ℕ) → Option Rule
label_rule (Case value at) front = case_rule (constant_word value) (label_words front)
label_rule (Default at) front = when (has_default front) rules.Label
