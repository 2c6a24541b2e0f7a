-- What is visible later in a source, against what is visible before.
use Rattle.std.specs.Prelude.{◌≡◌, ℕ, ◌+◌, ◌≤◌, List, [], ◌∷◌, length, Some, slice_get}
use Rattle.types_rules.specs.Scope.{Around, routine_of}
use Rattle.types_rules.specs.declared.scope.Routine.{Routine}
use Rattle.types_tree.specs.declared.variable.Duration.{Duration}
use Rattle.types_tree.specs.declared.variable.Duration.TheVariants.{Static, Automatic}
use Rattle.types_tree.specs.declared.variable.Variable.{Variable}

-- what was numbered or declared keeps its number and its type
pub record Grows (a b : Around) : Type 0 where
  pub outline_is : b.outline ≡ a.outline
  pub variables_are : (i : ℕ) (v : Variable) → slice_get a.variables i ≡ Some v → slice_get b.variables i ≡ Some v
  pub more : length a.variables ≤ length b.variables
  pub routines_are : (name : ℕ) (r : Routine) → routine_of name a ≡ Some r → routine_of name b ≡ Some r

abbrev pub static_count : Duration → ℕ
static_count Static = 1
static_count Automatic = 0

-- how many objects live as long as the program
abbrev pub statics : List Variable → ℕ
statics [] = 0
statics (v ∷ rest) = static_count v.duration + statics rest

-- behind parts of a block, where the scopes around it are the same
pub record Inside (a b : Around) : Type 0 where
  pub grows : Grows a b
  pub outer_is : b.outer ≡ a.outer
  pub defined_is : b.defined ≡ a.defined
  pub statics_are : statics b.variables ≡ statics a.variables

-- behind a statement, where nothing else is visible
pub record Beside (a b : Around) : Type 0 where
  pub inside : Inside a b
  pub scope_is : b.scope ≡ a.scope
