-- Objects that have elements.
use Rattle.std.specs.Prelude.{ℕ, ◌<◌, List}
use Rattle.facts_definitions.specs.FlowFacts.{main_of}
use Rattle.facts_definitions.specs.declared.facts.Facts.{Facts}
use Rattle.types_tree.specs.Tree as typed
use Rattle.types_tree.specs.declared.variable.Extent.{Extent}
use Rattle.types_tree.specs.declared.variable.Extent.TheVariants.{Array, Parameter, Scalar}
use Rattle.types_tree.specs.declared.variable.Variable.{Variable}
use Rattle.high_ir.specs.Whole.{HasElements}
use Rattle.plan_definition.specs.Programs.{program_planned}
use Rattle.plan_formed.specs.Checked.{IsChecked}

-- an array has at least one
abbrev pub SomeBy : Extent → Type 0
SomeBy Scalar = Unit {0}
SomeBy (Array count) = 0 < count
SomeBy Parameter = Unit {0}

abbrev pub HasSome : Variable → Type 0
HasSome v = SomeBy v.extent

abbrev pub PlansHaveElements : Type 0
PlansHaveElements = (names : List (List ℕ)) (program : typed.Program) (facts : Facts) → IsChecked names program facts → HasElements (program_planned program facts (main_of program names))
