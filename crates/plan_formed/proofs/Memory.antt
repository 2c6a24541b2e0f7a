-- Frames and local arrays of the plan of a source take at most 524,288 bytes.
use Rattle.std.proofs.Common.{◌≡◌, ℕ, ◌+◌, ◌*◌, ◌≤◌, Bool, true, false, List, [], length, Option, Some, None, refl, sym, subst, arith}
use Rattle.std.specs.Prelude.{if◌then◌else◌, nat_lt, sum_by}
use Rattle.std.proofs.lemmas.Bool.{ltb-false}
use Rattle.std.proofs.lemmas.Option.{none-some}
use Rattle.wcc_base.specs.Budgets.{most_locals}
use Rattle.facts_definitions.specs.FlowFacts.{main_of}
use Rattle.facts_definitions.specs.declared.facts.Facts.{Facts}
use Rattle.c_tree.specs.Size.{size_unit}
use Rattle.c_tree.specs.Tree.{External, Row, TranslationUnit, Whole}
use Rattle.types_tree.specs.Tree as typed
use Rattle.wcc_base.specs.Limits.{greatest_of}
use Rattle.wcc_base.specs.declared.limits.Bound.{Bound}
use Rattle.wcc_base.specs.declared.limits.Bound.TheVariants.{Functions, Globals, Locals, Markers, Nodes, Parameters, Restrictions}
use Rattle.types_rules.specs.Limits.{broken, global_bytes, limit, limits_before, limits_behind, local_bytes, over, tally_unit, variables_of}
use Rattle.types_rules.specs.Scope.{or_else, started}
use Rattle.types_rules.specs.Sights.{SeenUnit, externals_nodes, first_fault, outline_of, unit_nodes}
use Rattle.types_rules.specs.declared.fault.Fault.{Fault}
use Rattle.types_rules.specs.declared.fault.TypeFault.TheVariants.{Limit, Rule}
use Rattle.types_rules.specs.Typed.{fault_of, typed_of}
use Rattle.high_ir.specs.Size as sizes
use Rattle.plan_definition.specs.Layouts.{frame_scalars, givens, homes_of}
use Rattle.plan_definition.specs.Programs.{plan_of, program_planned}
use Rattle.plan_forms.specs.ProgramCosts.{functions_nodes}
use Rattle.plan_formed.proofs.Faults.{no_first, no_second, rest_of}
use Rattle.plan_formed.proofs.Units.{functions_few}
use Rattle.plan_formed.specs.Checked.{IsChecked}
use Rattle.plan_formed.specs.Memory.{AllSolid, FunctionsFramed, Rise}
use Rattle.plan_formed.proofs.Growing.{externals_grow, functions_rise}
use Rattle.plan_formed.proofs.Sums.{frames_most, objects_most, own_most, own_scalars}

-- what is within a limit
within : (which : Bound) (n : ℕ) → limit which (over which n) ≡ None → n ≤ greatest_of which
within which n h = of (nat_lt (greatest_of which) n) refl h
  where
    of : (b : Bool) → nat_lt (greatest_of which) n ≡ b → limit which (if b then Some n else None) ≡ None → n ≤ greatest_of which
    of true e k = absurd (none-some (Limit which n) (sym k))
    of false e k = ltb-false (greatest_of which) n e

not_broken : (o : Option Fault) → broken o ≡ None → o ≡ None
not_broken None h = refl
not_broken (Some fault) h = absurd (none-some (Rule fault.rule fault.at) (sym h))

module _ (names : List (List ℕ)) (items : Row (External ℕ)) (at : ℕ) (passes : fault_of names (Whole items at) ≡ None) where
  behind_is : or_else (broken (first_fault (unit_nodes (outline_of names (Whole items at)) (Whole items at)))) (limits_behind (variables_of (outline_of names (Whole items at)) (Whole items at))) ≡ None
  behind_is = no_second (limits_before (size_unit (Whole items at)).nodes (tally_unit (Whole items at))) (or_else (broken (first_fault (unit_nodes (outline_of names (Whole items at)) (Whole items at)))) (limits_behind (variables_of (outline_of names (Whole items at)) (Whole items at)))) passes

  pub rules_pass : first_fault (externals_nodes items (started (outline_of names (Whole items at)))) ≡ None
  rules_pass =
      let unit = Whole items at in
      let outline = outline_of names unit in
      rest_of (SeenUnit unit outline) (externals_nodes items (started outline)) (not_broken (first_fault (unit_nodes outline unit)) (no_first (broken (first_fault (unit_nodes outline unit))) (limits_behind (variables_of outline unit)) behind_is))

  few_nodes : (size_unit (Whole items at)).nodes ≤ 16384
  few_nodes =
      let unit = Whole items at in
      let nodes = (size_unit unit).nodes in
      let t = tally_unit unit in
      within Nodes nodes
      (no_first (limit Nodes (over Nodes nodes)) (or_else (limit Functions (over Functions t.functions)) (or_else (limit Parameters t.parameters) (or_else (limit Markers (over Markers t.markers)) (limit Restrictions (over Restrictions t.restrictions)))))
      (no_first (limits_before nodes t) (or_else (broken (first_fault (unit_nodes (outline_of names unit) unit))) (limits_behind (variables_of (outline_of names unit) unit))) passes))

  pub few_globals : global_bytes (typed_of names (Whole items at)).variables ≤ 262144
  few_globals =
      let variables = (typed_of names (Whole items at)).variables in
      let unit = Whole items at in
      within Globals (global_bytes variables)
      (no_first (limit Globals (over Globals (global_bytes variables))) (limit Locals (over Locals (local_bytes variables)))
      (no_second (broken (first_fault (unit_nodes (outline_of names unit) unit))) (limits_behind variables) behind_is))

  pub few_locals : local_bytes (typed_of names (Whole items at)).variables ≤ 262144
  few_locals =
      let variables = (typed_of names (Whole items at)).variables in
      let unit = Whole items at in
      within Locals (local_bytes variables)
      (no_second (limit Globals (over Globals (global_bytes variables))) (limit Locals (over Locals (local_bytes variables)))
      (no_second (broken (first_fault (unit_nodes (outline_of names unit) unit))) (limits_behind variables) behind_is))

  unit_takes : (facts : Facts) → FunctionsFramed (homes_of (typed_of names (Whole items at))) (typed_of names (Whole items at)).variables (length (typed_of names (Whole items at)).variables) (typed_of names (Whole items at)).functions →
      sizes.local_bytes (program_planned (typed_of names (Whole items at)) facts (main_of (typed_of names (Whole items at)) names)) ≤ most_locals
  unit_takes facts framed =
      let program = typed_of names (Whole items at) in
      let variables = program.variables in
      let start = started (outline_of names (Whole items at)) in
      let p = program_planned program facts (main_of program names) in
      let rise : Rise (length variables) program.functions = functions_rise items start [] (length variables) rules_pass (itself (length variables)) tt in
      let solid : AllSolid variables = (externals_grow items start rules_pass).solid tt in
      all (sum_by sizes.frame_bytes p.functions) (sum_by (λ o. sizes.local_object_bytes o.storage o) p.objects) (own_scalars variables (length variables) program.functions) (frame_scalars variables) (local_bytes variables) (functions_nodes program.functions) (size_unit (Whole items at)).nodes
      (frames_most (plan_of program facts) variables facts.ranks.of_functions program.functions 0 framed) (own_most variables (length variables) program.functions rise) (objects_most variables (givens program.items) solid) (omega (arith, functions_few items start [])) few_nodes few_locals
    where
      itself : (n : ℕ) → n ≤ n
      itself n = omega arith

      all : (f o own s l n u : ℕ) → f ≤ 4 * own + 8 * n → own ≤ s → o + 4 * s ≤ l → n + 1 ≤ u → u ≤ 16384 → l ≤ 262144 → f + o ≤ most_locals
      all f o own s l n u a b d e g h = omega (arith, a, b, d, e, g, h)

of_unit : (names : List (List ℕ)) (unit : TranslationUnit ℕ) → fault_of names unit ≡ None → (p : typed.Program) → p ≡ typed_of names unit → (facts : Facts) → FunctionsFramed (homes_of p) p.variables (length p.variables) p.functions → sizes.local_bytes (program_planned p facts (main_of p names)) ≤ most_locals
of_unit names (Whole items at) passes p is facts framed =
    subst (λ q. sizes.local_bytes (program_planned q facts (main_of q names)) ≤ most_locals) (sym is) (unit_takes names items at passes facts (subst (λ q. FunctionsFramed (homes_of q) q.variables (length q.variables) q.functions) is framed))

-- where each function's scalars live in its frame, one behind the other
pub local_most : (names : List (List ℕ)) (program : typed.Program) (facts : Facts) → IsChecked names program facts → FunctionsFramed (homes_of program) program.variables (length program.variables) program.functions → sizes.local_bytes (program_planned program facts (main_of program names)) ≤ most_locals
local_most names program facts h framed = of_unit names h.unit h.passes program h.program_is facts framed
