-- A typed tree is that of a unit at which no rule fails.
use Rattle.std.proofs.Common.{ℕ, List}
use Rattle.facts_definitions.specs.declared.facts.Facts.{Facts}
use Rattle.types_rules.specs.Sights.{outline_of}
use Rattle.c_tree.specs.Tree.{Whole}
use Rattle.types_tree.specs.Tree as typed
use Rattle.plan_runs.specs.Meets.{IsLayout}
use Rattle.plan_served.specs.Layouts.{layout_of}
use Rattle.types_seen.specs.Units.{HasTree}
use Rattle.plan_served.proofs.Placed.{placed}
use Rattle.types_seen.proofs.Units.{of_tree}

-- no two objects of a well-typed program live at one place
pub is_layout : (names : List (List ℕ)) (program : typed.Program) (facts : Facts) → HasTree names program → IsLayout (layout_of program facts)
is_layout names program facts tree =
    let u = of_tree names program tree in
    placed (outline_of names (Whole u.items u.at)) u.items program facts u.is_unit
