-- What parts of a program do in the scope in which the walk runs them.
use Rattle.std.specs.Prelude.{ℕ, Bool, true, not, false, List, Result, Ok, Err, Vec}
use Rattle.std.specs.Global.{Global}
use Rattle.types_value.specs.Kinds.{converted, is_void, promoted}
use Rattle.types_value.specs.Operators.{computed, signed_by}
use Rattle.types_tree.specs.declared.variable.Variable.{Variable}
use Rattle.types_tree.specs.Tree.{Place, Expr, Exprs, Statement, Items, Step, Signed, Cast, Convert, Operate, And, Or, Comma, Conditional, Assign, Update}
use Rattle.types_tree.specs.View.{declaration_of, label_of, program_of, statement_of}
use Rattle.types_tree.specs.declared.statement.Item as items
use Rattle.meaning_semantics.specs.declared.outcome.Flow.{Flow}
use Rattle.meaning_semantics.specs.declared.outcome.Flow.TheVariants.{Onward}
use Rattle.meaning_semantics.specs.declared.outcome.Found.{Found}
use Rattle.meaning_semantics.specs.declared.outcome.Stop.{Stop}
use Rattle.meaning_semantics.specs.State.{Fine, Outcome, State, Stopped, at_place, changed, choose, settled, step_operator, step_value, then_do, truth, write}
use Rattle.meaning_semantics.specs.Values.{Calls, both, find, targeted, value, values}
use Rattle.meaning_semantics.specs.Statements.{Source, declared, is_chosen, run, run_items, run_from}
use Rattle.meaning_semantics.specs.Runs.{calls}
use Rattle.c_meaning.specs.declared.walk.Scope.{Scope}

abbrev pub source_of : Scope → Source
source_of scope = record { program = program_of scope.program.now; bounds = scope.bounds.now }

abbrev pub calls_of : Scope → Calls
calls_of scope = calls (source_of scope) scope.depth

abbrev pub find_in : Scope → Place → State → Outcome Found
find_in scope place st = find scope.program.now.variables.items (calls_of scope) place st

abbrev pub value_in : Scope → Expr → (used : Bool) → State → Outcome ℕ
value_in scope e used st = value scope.program.now.variables.items (calls_of scope) e used st

abbrev pub values_in : Scope → Exprs → State → Outcome (List ℕ)
values_in scope es st = values scope.program.now.variables.items (calls_of scope) es st

abbrev pub run_in : Scope → Statement → State → Outcome Flow
run_in scope s st = run (source_of scope) (calls_of scope) s st

abbrev pub run_items_in : Scope → Items → State → Outcome Flow
run_items_in scope items st = run_items (source_of scope) (calls_of scope) items st

abbrev pub run_from_in : Scope → (found : Bool) → (word : ℕ) → Items → State → Outcome Flow
run_from_in scope found word items st = run_from (source_of scope) (calls_of scope) found word items st

-- a list of words, as its elements
abbrev pub words_of : Result (Vec ℕ Global) Stop → State → Outcome (List ℕ)
words_of (Ok words) st = Fine words.items st
words_of (Err stop) st = Stopped stop

-- what one item does
abbrev pub item_run : Source → Calls → items.Item → State → Outcome Flow
item_run source call (items.Declaration declaration) st = declared source call (declaration_of declaration) st
item_run source call (items.Statement statement) st = run source call (statement_of statement) st
item_run source call (items.Restriction pragma) st = Fine Onward st
item_run source call (items.Label label) st = Fine Onward st

-- whether a switch goes on at this item
abbrev pub goes_on_at : (found : Bool) → (word : ℕ) → items.Item → Bool
goes_on_at found word (items.Declaration declaration) = false
goes_on_at found word (items.Statement statement) = false
goes_on_at found word (items.Restriction pragma) = false
goes_on_at found word (items.Label label) = is_chosen found word (label_of label)

-- what each kind of expression does; the others do nothing there
module _ (variables : List Variable) (call : Calls) where
  abbrev pub unary_value : Expr → (used : Bool) → State → Outcome ℕ
  unary_value (Signed operator kind operand at) used st = then_do (value variables call operand true st) (λ x st1. settled (signed_by operator kind x) at st1)
  unary_value (Cast specifiers to operand at) used st = then_do (value variables call operand (not (is_void to)) st) (λ x st1. Fine (converted to x) st1)
  unary_value (Convert to operand) used st = then_do (value variables call operand used st) (λ x st1. Fine (converted to x) st1)
  unary_value other used st = Fine 0 st

  abbrev pub joined_value : Expr → (used : Bool) → State → Outcome ℕ
  joined_value (Operate operator kind left right at) used st =
      then_do (both (value variables call left true) (value variables call right true) st) (λ x st1. settled (computed operator kind x.left x.right) at st1)
  joined_value (And left right at) used st =
      then_do (value variables call left true st) (λ x st1. choose x (then_do (value variables call right true st1) (λ y st2. Fine (truth y) st2)) (Fine 0 st1))
  joined_value (Or left right at) used st =
      then_do (value variables call left true st) (λ x st1. choose x (Fine 1 st1) (then_do (value variables call right true st1) (λ y st2. Fine (truth y) st2)))
  joined_value (Comma left right at) used st = then_do (value variables call left false st) (λ x st1. value variables call right used st1)
  joined_value (Conditional test first second at) used st =
      then_do (value variables call test true st) (λ x st1. choose x (value variables call first used st1) (value variables call second used st1))
  joined_value other used st = Fine 0 st

  abbrev pub placed_value : Expr → State → Outcome ℕ
  placed_value (Step fix operator kind target at) st =
      then_do (find variables call target st) (λ found st1. then_do (changed (at_place at found) (step_operator operator) (promoted kind) kind 1 st1) (λ change st2. Fine (step_value fix change) st2))
  placed_value (Assign target right at) st =
      then_do (targeted (find variables call target) (value variables call right true) st) (λ target st1. write target.found target.word st1)
  placed_value (Update operator kind to target right at) st =
      then_do (targeted (find variables call target) (value variables call right true) st) (λ target st1.
      then_do (changed (at_place at target.found) operator kind to target.word st1) (λ change st2. Fine change.behind st2))
  placed_value other st = Fine 0 st

abbrev pub unary_in : Scope → Expr → (used : Bool) → State → Outcome ℕ
unary_in scope e used st = unary_value scope.program.now.variables.items (calls_of scope) e used st

abbrev pub joined_in : Scope → Expr → (used : Bool) → State → Outcome ℕ
joined_in scope e used st = joined_value scope.program.now.variables.items (calls_of scope) e used st

abbrev pub placed_in : Scope → Expr → State → Outcome ℕ
placed_in scope e st = placed_value scope.program.now.variables.items (calls_of scope) e st
