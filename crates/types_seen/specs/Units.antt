-- A program that is the typed tree of a unit at which no rule fails.
use Rattle.std.specs.Prelude.{◌≡◌, ℕ, List, [], None}
use Rattle.c_tree.specs.Tree.{Row, External, TranslationUnit}
use Rattle.types_tree.specs.Tree as typed
use Rattle.types_rules.specs.Typed.{fault_of, typed_of}
use Rattle.types_rules.specs.Scope.{Outline, started}
use Rattle.types_rules.specs.Sights.{after_external, definitions, externals_nodes, first_fault}
use Rattle.types_rules.specs.Typing.{and_external, typed_row}
use Rattle.types_seen.specs.Fronts.{behind, functions_of}

-- a program is the typed tree of a unit that fails no rule and is within the limits
pub record HasTree (names : List (List ℕ)) (program : typed.Program) : Type 0 where
  pub unit : TranslationUnit ℕ
  pub passes : fault_of names unit ≡ None
  pub program_is : program ≡ typed_of names unit

pub record IsUnit (outline : Outline) (items : Row (External ℕ)) (program : typed.Program) : Type 0 where
  pub faultless : first_fault (externals_nodes items (started outline)) ≡ None
  pub listed : outline.definitions ≡ definitions items
  pub items_are : program.items ≡ typed_row after_external and_external items (started outline) []
  pub functions_are : program.functions ≡ functions_of items (started outline)
  pub variables_are : program.variables ≡ (behind outline items).variables
