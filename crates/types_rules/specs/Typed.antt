-- The typed tree of a unit that has one, and why another has none.
use Rattle.std.specs.Prelude.{◌≡◌, ℕ, ◌≤◌, List, Option, Some, None}
use Rattle.c_tree.specs.Formed.{IsFormedUnit}
use Rattle.c_tree.specs.Names.{AreDistinct, AreListed, AreNames, name_of, names_of_unit}
use Rattle.c_tree.specs.Named.{named_unit}
use Rattle.c_tree.specs.Size.{size_unit}
use Rattle.c_tree.specs.Tree.{TranslationUnit}
use Rattle.types_tree.specs.Tree.{Program}
use Rattle.types_rules.specs.Limits.{broken, limits_behind, unit_fault, variables_of}
use Rattle.types_rules.specs.Scope.{Outline, or_else}
use Rattle.types_rules.specs.Sights.{first_fault, outline_of, unit_nodes}
use Rattle.types_rules.specs.Typing.{typed_unit}
use Rattle.types_rules.specs.declared.fault.TypeFault.{TypeFault}
use Rattle.types_rules.specs.declared.fault.TypeFault.TheVariants.{Limit, Rule, Memory}

-- why a unit with these names has no typed tree
abbrev pub fault_of : List (List ℕ) → TranslationUnit ℕ → Option TypeFault
fault_of names unit = unit_fault (outline_of names unit) unit

abbrev pub typed_of : List (List ℕ) → TranslationUnit ℕ → Program
typed_of names unit = typed_unit (outline_of names unit) unit

-- a program is the typed tree of a unit that is well formed, at most 256 nodes deep, and has one
pub record IsTypedTree (names : List (List ℕ)) (program : Program) : Type 0 where
  pub unit : TranslationUnit ℕ
  pub is_formed : IsFormedUnit unit
  pub shallow : (size_unit unit).depth ≤ 256
  pub are_listed : AreListed names unit
  pub are_names : AreNames names
  pub are_distinct : AreDistinct names
  pub are_in_order : names ≡ names_of_unit (named_unit (name_of names) unit)
  pub passes : fault_of names unit ≡ None
  pub program_is : program ≡ typed_of names unit

-- the first cause from the rules on why a unit has no typed tree
abbrev pub fault_behind : Outline → TranslationUnit ℕ → Option TypeFault
fault_behind outline unit = or_else (broken (first_fault (unit_nodes outline unit))) (limits_behind (variables_of outline unit))

-- a unit is refused for what it is, or for want of memory
abbrev pub Refuses : TypeFault → List (List ℕ) → TranslationUnit ℕ → Type 0
Refuses (Limit which found) names unit = fault_of names unit ≡ Some (Limit which found)
Refuses (Rule rule at) names unit = fault_of names unit ≡ Some (Rule rule at)
Refuses Memory names unit = Unit {0}
