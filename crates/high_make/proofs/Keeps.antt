-- What is known of a typed program without its tree.
use Rattle.std.proofs.Common.{ℕ, List, All}
use Rattle.std.proofs.Math.Logic.{∥∥₁_elim, ∥∥₁_map}
use Rattle.std.proofs.Props.{props}
use Rattle.facts_definitions.specs.FlowFacts.{AreFacts, main_of}
use Rattle.facts_definitions.specs.declared.facts.Facts.{Facts}
use Rattle.facts_definitions.specs.declared.facts.Bounds.{Bounds}
use Rattle.types_tree.specs.Tree.{Program}
use Rattle.types_rules.specs.Typed.{IsTypedTree}
use Rattle.high_ir.specs.Formed.{IsHigh}
use Rattle.high_ir.specs.Tree as high
use Rattle.plan_carried.specs.Sources.{planned_listing}
use Rattle.plan_definition.specs.Programs.{program_planned}
use Rattle.plan_law.specs.Plans.{KeepsSource}
use Rattle.plan_law.proofs.Law.{planned_keeps}
use Rattle.plan_formed.specs.Checked.{IsChecked}
use Rattle.plan_formed.proofs.Operations.{operations_most}
use Rattle.plan_formed.proofs.Planned.{planned_is_high}
use Rattle.make_statement.specs.Planned.{IsSmall}
use Rattle.high_make.specs.Trees.{FitsTree}
use Rattle.high_make.proofs.Small.{small_facts}

-- there is at most one proof of each of these, so that they follow from there being a tree
is_high-prop : (p : high.Program) → IsProp (IsHigh p)
is_high-prop p = Prim.hlevel props

small-prop : (bounds : List Bounds) → IsProp (All IsSmall bounds)
small-prop bounds = Prim.hlevel props

module _ (names : List (List ℕ)) (program : Program) (facts : Facts) (typed : ∥ IsTypedTree names program ∥₁) (are : AreFacts program names facts) where
  abbrev checked : IsTypedTree names program → IsChecked names program facts
  checked tree = record { unit = tree.unit; passes = tree.passes; program_is = tree.program_is; shallow = tree.shallow; facts_are = are }

  abbrev planned : high.Program
  planned = program_planned program facts (main_of program names)

  pub keeps : ∥ KeepsSource names program facts planned (planned_listing program facts) ∥₁
  keeps = ∥∥₁_map typed (λ tree. planned_keeps names program facts (checked tree))

  pub fits : ∥ FitsTree names program planned ∥₁
  fits = ∥∥₁_map typed (λ tree. record { unit = tree.unit; passes = tree.passes; source_is = tree.program_is; operations = operations_most names program facts (checked tree) })

  pub is_high : IsHigh planned
  is_high = ∥∥₁_elim typed (is_high-prop planned) (λ tree. planned_is_high names program facts (checked tree))

  pub small : All IsSmall facts.bounds
  small = ∥∥₁_elim typed (small-prop facts.bounds) (λ tree. small_facts names program facts tree are)
