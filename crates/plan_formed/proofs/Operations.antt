-- The plan of a source has at most six operations for each node of the source's tree.
use Rattle.std.proofs.Common.{ℕ, ◌*◌, ◌≤◌, List, [], sym, subst, arith}
use Rattle.wcc_base.specs.Budgets.{most_operations}
use Rattle.facts_definitions.specs.FlowFacts.{main_of}
use Rattle.facts_definitions.specs.declared.facts.Facts.{Facts}
use Rattle.c_tree.specs.Size.{size_unit}
use Rattle.c_tree.specs.Tree.{TranslationUnit, Whole}
use Rattle.types_tree.specs.Tree.{Program}
use Rattle.types_rules.specs.Typed.{typed_of}
use Rattle.types_rules.specs.Scope.{started}
use Rattle.types_rules.specs.Sights.{outline_of}
use Rattle.high_ir.specs.Size.{program_operations}
use Rattle.plan_definition.specs.Programs.{plan_of, program_planned}
use Rattle.plan_forms.proofs.SizedPrograms.{functions_operations_most}
use Rattle.plan_formed.proofs.Units.{functions_few, functions_single}
use Rattle.plan_formed.specs.Checked.{IsChecked}
use Rattle.plan_formed.proofs.Planned.{few_nodes}

unit_operations : (names : List (List ℕ)) (unit : TranslationUnit ℕ) → (facts : Facts) (main : ℕ) → program_operations (program_planned (typed_of names unit) facts main) ≤ 6 * (size_unit unit).nodes
unit_operations names (Whole items at) facts main =
    let program = typed_of names (Whole items at) in
    let start = started (outline_of names (Whole items at)) in
    omega (arith, functions_operations_most (plan_of program facts) program.variables facts.ranks.of_functions program.functions 0 (functions_single items start [] tt), functions_few items start [])

pub operations_most : (names : List (List ℕ)) (program : Program) (facts : Facts) → (checked : IsChecked names program facts) → program_operations (program_planned program facts (main_of program names)) ≤ 6 * (size_unit checked.unit).nodes
operations_most names program facts checked =
    subst (λ p. program_operations (program_planned p facts (main_of p names)) ≤ 6 * (size_unit checked.unit).nodes) (sym checked.program_is) (unit_operations names checked.unit facts (main_of (typed_of names checked.unit) names))

-- within what passes may come to, since a source has at most 16,384 nodes
pub operations_few : (names : List (List ℕ)) (program : Program) (facts : Facts) → IsChecked names program facts → program_operations (program_planned program facts (main_of program names)) ≤ most_operations
operations_few names program facts checked = omega (arith, operations_most names program facts checked, few_nodes names checked.unit checked.passes)
