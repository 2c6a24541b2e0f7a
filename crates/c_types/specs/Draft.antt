-- What is found in a unit, from the rules on.
use Rattle.std.specs.Prelude.{◌≡◌, ℕ, List, map}
use Rattle.c_tree.specs.Tree.{TranslationUnit}
use Rattle.types_tree.specs.View.{external_of, function_of}
use Rattle.types_rules.specs.Sights.{outline_of}
use Rattle.types_rules.specs.Typed.{fault_behind, typed_of}
use Rattle.c_types.specs.declared.checker.Draft.{Draft}

-- the parts of a unit's typed form, and the first cause on why it has none
pub record IsDraft (r : Draft) (names : List (List ℕ)) (unit : TranslationUnit ℕ) : Type 0 where
  pub items : map external_of r.items.items ≡ (typed_of names unit).items
  pub functions : map function_of r.functions.items ≡ (typed_of names unit).functions
  pub variables : r.variables.items ≡ (typed_of names unit).variables
  pub fault : r.fault ≡ fault_behind (outline_of names unit) unit
