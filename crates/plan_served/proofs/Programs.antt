-- The plan of a well-typed program serves each of its functions.
use Rattle.std.proofs.Common.{ℕ, List}
use Rattle.facts_definitions.specs.FlowFacts.{AreFacts}
use Rattle.facts_definitions.specs.declared.facts.Facts.{Facts}
use Rattle.types_rules.specs.Sights.{outline_of}
use Rattle.c_tree.specs.Tree.{Whole}
use Rattle.types_calls.specs.Calls.{CallsDefined}
use Rattle.types_tree.specs.Tree as typed
use Rattle.plan_definition.specs.Programs.{program_planned}
use Rattle.plan_runs.specs.Serves.{AllServe}
use Rattle.plan_served.specs.Layouts.{layout_of, rest_of, signatures_of}
use Rattle.types_seen.specs.Units.{HasTree}
use Rattle.types_seen.proofs.Units.{of_tree}
use Rattle.plan_served.proofs.Served.{all_serve}

-- each function of a well-typed program is served by its plan
pub serves : (names : List (List ℕ)) (program : typed.Program) (facts : Facts) (main : ℕ) → HasTree names program → CallsDefined program → AreFacts program names facts →
    AllServe (layout_of program facts) (signatures_of program) (rest_of program facts) (program_planned program facts main).functions
serves names program facts main tree calls are =
    let u = of_tree names program tree in
    all_serve names (outline_of names (Whole u.items u.at)) u.items program facts u.is_unit are calls main
