-- The plan of a source weighs at most 16 times what a run of its `main` executes at most, and reaches no mark more often than that.
use Rattle.std.proofs.Common.{◌≡◌, ℕ, suc, ◌+◌, ◌*◌, ◌<◌, ◌≤◌, List, [], length, None, sym, ap, ◌∙◌, subst, arith}
use Rattle.std.specs.Prelude.{slice_index_or}
use Rattle.c_tree.specs.Tree.{TranslationUnit, Whole}
use Rattle.facts_definitions.specs.FlowFacts.{AreFacts, main_of}
use Rattle.facts_definitions.specs.Most.{most_of, most_within}
use Rattle.facts_definitions.specs.declared.facts.Facts.{Facts}
use Rattle.types_tree.specs.Tree as typed
use Rattle.types_rules.specs.Typed.{fault_of, typed_of}
use Rattle.high_ir.specs.Runs.{rank_or}
use Rattle.high_ir.specs.Weight.{reach, reaches, weight, weights}
use Rattle.plan_definition.specs.Programs.{functions_planned, plan_of, program_planned}
use Rattle.plan_forms.proofs.FormedPrograms.{rank_planned}
use Rattle.plan_formed.proofs.ReachedPrograms.{reaches_most}
use Rattle.plan_forms.proofs.SizedPrograms.{weights_most}
use Rattle.plan_formed.proofs.Units.{functions_single}
use Rattle.types_rules.specs.Scope.{started}
use Rattle.types_rules.specs.Sights.{outline_of}
use Rattle.plan_formed.specs.Checked.{IsChecked}
use Rattle.plan_formed.proofs.Facts.{says}
use Rattle.plan_formed.proofs.Planned.{main_there}

-- what main comes to, by the rank that the plan gives it
most_planned : (names : List (List ℕ)) (program : typed.Program) (facts : Facts) → main_of program names < length program.functions → AreFacts program names facts →
    most_within program facts.bounds (suc (rank_or (functions_planned (plan_of program facts) program.variables facts.ranks.of_functions 0 program.functions) (main_of program names) 0)) (main_of program names) ≡ facts.most
most_planned names program facts lt are =
    let main = main_of program names in
    let ranks = facts.ranks.of_functions in
    let said = says program names facts.ranks are.derived facts are.whole in
    ap (λ n. most_within program facts.bounds (suc n) main) (rank_planned (plan_of program facts) program.variables ranks program.functions 0 main 0 lt ∙ ap (λ n. slice_index_or ranks n 0) (zero_plus main))
    ∙ (ap (λ x. most_of program x.bounds ranks main) said.facts_are ∙ ap (λ x. x.most) (sym said.facts_are))
  where
    zero_plus : (n : ℕ) → 0 + n ≡ n
    zero_plus n = omega arith

unit_weighs : (names : List (List ℕ)) (unit : TranslationUnit ℕ) → fault_of names unit ≡ None → (program : typed.Program) → program ≡ typed_of names unit → (facts : Facts) → AreFacts program names facts → weight (program_planned program facts (main_of program names)) ≤ 16 * facts.most
unit_weighs names (Whole items at) passes program is facts are = subst (λ p. weight (program_planned p facts (main_of p names)) ≤ 16 * facts.most) (sym is) (weighs (subst (λ p. AreFacts p names facts) is are))
  where
    weighs : AreFacts (typed_of names (Whole items at)) names facts → weight (program_planned (typed_of names (Whole items at)) facts (main_of (typed_of names (Whole items at)) names)) ≤ 16 * facts.most
    weighs are =
        let own = typed_of names (Whole items at) in
        let main = main_of own names in
        let ranks = facts.ranks.of_functions in
        let fs = functions_planned (plan_of own facts) own.variables ranks 0 own.functions in
        subst (λ m. weights fs (suc (rank_or fs main 0)) main ≤ 16 * m) (most_planned names own facts (main_there names items at passes) are)
        (weights_most (plan_of own facts) own.variables ranks own (functions_single items (started (outline_of names (Whole items at))) [] tt) (suc (rank_or fs main 0)) main)

-- no more than 16 for each node that a run executes at most
pub weight_most : (names : List (List ℕ)) (program : typed.Program) (facts : Facts) → IsChecked names program facts → weight (program_planned program facts (main_of program names)) ≤ 16 * facts.most
weight_most names program facts h = unit_weighs names h.unit h.passes program h.program_is facts h.facts_are

unit_reaches : (names : List (List ℕ)) (unit : TranslationUnit ℕ) → fault_of names unit ≡ None → (program : typed.Program) → program ≡ typed_of names unit → (facts : Facts) → AreFacts program names facts → (mark : ℕ) → reach (program_planned program facts (main_of program names)) mark ≤ facts.most
unit_reaches names (Whole items at) passes program is facts are mark = subst (λ p. reach (program_planned p facts (main_of p names)) mark ≤ facts.most) (sym is) (reaches_it (subst (λ p. AreFacts p names facts) is are))
  where
    reaches_it : AreFacts (typed_of names (Whole items at)) names facts → reach (program_planned (typed_of names (Whole items at)) facts (main_of (typed_of names (Whole items at)) names)) mark ≤ facts.most
    reaches_it are =
        let own = typed_of names (Whole items at) in
        let main = main_of own names in
        let ranks = facts.ranks.of_functions in
        let fs = functions_planned (plan_of own facts) own.variables ranks 0 own.functions in
        subst (λ m. reaches fs mark (suc (rank_or fs main 0)) main ≤ m) (most_planned names own facts (main_there names items at passes) are)
        (reaches_most (plan_of own facts) own.variables ranks mark own (suc (rank_or fs main 0)) main)

-- each mark is reached at most as often as a run executes nodes
pub reach_most : (names : List (List ℕ)) (program : typed.Program) (facts : Facts) → IsChecked names program facts → (mark : ℕ) → reach (program_planned program facts (main_of program names)) mark ≤ facts.most
reach_most names program facts h mark = unit_reaches names h.unit h.passes program h.program_is facts h.facts_are mark
