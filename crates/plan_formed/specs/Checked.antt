-- Programs of sources that can be planned.
use Rattle.std.specs.Prelude.{◌≡◌, ℕ, ◌≤◌, List, None}
use Rattle.facts_definitions.specs.FlowFacts.{AreFacts}
use Rattle.facts_definitions.specs.declared.facts.Facts.{Facts}
use Rattle.c_tree.specs.Size.{size_unit}
use Rattle.c_tree.specs.Tree.{TranslationUnit}
use Rattle.types_tree.specs.Tree.{Program}
use Rattle.types_rules.specs.Typed.{fault_of, typed_of}

-- a program is the typed tree of a unit that fails no rule, is within the limits and at most 256 deep, and has these facts
pub record IsChecked (names : List (List ℕ)) (program : Program) (facts : Facts) : Type 0 where
  pub unit : TranslationUnit ℕ
  pub passes : fault_of names unit ≡ None
  pub program_is : program ≡ typed_of names unit
  pub shallow : (size_unit unit).depth ≤ 256
  pub facts_are : AreFacts program names facts
