-- The loops of a program in the order of the source, fillings aside, and the bounds that are derived for them.
use Rattle.std.specs.Prelude.{ℕ, List, [], ◌∷◌, ◌++◌, Option, Some, None}
use Rattle.facts_definitions.specs.FlowFacts.{and_one}
use Rattle.facts_definitions.specs.declared.facts.Bounds.{Bounds}
use Rattle.facts_definitions.specs.declared.facts.Derived.{Derived}
use Rattle.c_tree.specs.declared.pragma.Pragma.{Pragma}
use Rattle.types_tree.specs.Tree.{Statement, Block, Empty, Evaluate, Marker, If, IfElse, While, Do, For, Switch, Break, Continue, Return, Items, NoItem, WithDeclaration, WithStatement, WithRestriction, WithLabel, Function, Defined, Program}
use Rattle.types_tree.specs.declared.variable.Variable.{Variable}
use Rattle.facts_loops.specs.Counting.{counting}
use Rattle.facts_loops.specs.declared.form.LoopForm.{LoopForm}

-- bounds are derived for a loop without a pragma alone
abbrev pub unless_written : Option Pragma → Option Bounds → Option Bounds
unless_written None bounds = bounds
unless_written (Some pragma) bounds = None

abbrev pub form_of : (number at : ℕ) → Option Bounds → LoopForm
form_of number at derived = record { number = number; at = at; derived = derived }

abbrev mutual
  pub statement_loops : List Variable → Statement → List LoopForm
  statement_loops variables (Block items at) = items_loops variables items
  statement_loops variables (Empty at) = []
  statement_loops variables (Evaluate value at) = []
  statement_loops variables (Marker number pragma) = []
  statement_loops variables (If test first at) = statement_loops variables first
  statement_loops variables (IfElse test first second at) = statement_loops variables first ++ statement_loops variables second
  statement_loops variables (While number bound test body at) = form_of number at None ∷ statement_loops variables body
  statement_loops variables (Do number bound body test at) = form_of number at None ∷ statement_loops variables body
  statement_loops variables (For number bound start test step body at) =
      form_of number at (unless_written bound (counting variables start test step body)) ∷ statement_loops variables body
  statement_loops variables (Switch test items at) = items_loops variables items
  statement_loops variables (Break at) = []
  statement_loops variables (Continue at) = []
  statement_loops variables (Return value at) = []

  pub items_loops : List Variable → Items → List LoopForm
  items_loops variables NoItem = []
  items_loops variables (WithDeclaration declaration rest) = items_loops variables rest
  items_loops variables (WithStatement statement rest) = statement_loops variables statement ++ items_loops variables rest
  items_loops variables (WithRestriction pragma rest) = items_loops variables rest
  items_loops variables (WithLabel label rest) = items_loops variables rest

abbrev pub function_loops : List Variable → Function → List LoopForm
function_loops variables (Defined specifiers name name_at params first body body_at at) = items_loops variables body

abbrev pub functions_loops : List Variable → List Function → List LoopForm
functions_loops variables [] = []
functions_loops variables (function ∷ rest) = function_loops variables function ++ functions_loops variables rest

-- of the whole program, in the order of its functions' definitions
abbrev pub loops_of : Program → List LoopForm
loops_of program = functions_loops program.variables program.functions

abbrev pub derived_by : (number : ℕ) → Option Bounds → Option Derived
derived_by number None = None
derived_by number (Some bounds) = Some (record { number = number; bounds = bounds })

abbrev pub derived_among : List LoopForm → List Derived
derived_among [] = []
derived_among (form ∷ rest) = and_one (derived_by form.number form.derived) (derived_among rest)

-- the counting loops without a pragma, with their bounds
abbrev pub derived_of : Program → List Derived
derived_of program = derived_among (loops_of program)
