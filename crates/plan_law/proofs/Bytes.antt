-- Each function's scalars live in its frame, so that the plan's frames and local arrays take at most 524,288 bytes.
use Rattle.std.proofs.Common.{◌≡◌, ℕ, suc, ◌+◌, ◌≤◌, List, [], ◌∷◌, ◌++◌, length, Option, Some, None, refl, sym, ap, ◌∙◌, subst, arith}
use Rattle.std.specs.Prelude.{slice_get, slice_index_or}
use Rattle.std.proofs.lemmas.Option.{none-some}
use Rattle.wcc_base.specs.Budgets.{most_locals}
use Rattle.facts_definitions.specs.FlowFacts.{AreFacts, main_of}
use Rattle.facts_definitions.specs.declared.facts.Facts.{Facts}
use Rattle.c_tree.specs.Size.{size_unit}
use Rattle.c_tree.specs.Tree.{External, Row, Then, TranslationUnit, Whole}
use Rattle.types_tree.specs.Tree as typed
use Rattle.types_rules.specs.Limits.{broken, limits_before, limits_behind, tally_unit, variables_of}
use Rattle.types_rules.specs.Scope.{or_else, started}
use Rattle.types_rules.specs.Sights.{SeenUnit, externals_nodes, first_fault, outline_of, unit_nodes}
use Rattle.types_rules.specs.Scope.{Outline}
use Rattle.types_rules.specs.Specifiers.{kind_spelled}
use Rattle.types_rules.specs.Typing.{typed_items}
use Rattle.types_rules.specs.declared.fault.Fault.{Fault}
use Rattle.types_rules.specs.declared.fault.TypeFault.TheVariants.{Rule}
use Rattle.types_rules.specs.Typed.{fault_of, typed_of}
use Rattle.types_calls.specs.Calls.{CallsDefined}
use Rattle.types_seen.proofs.Calls.{calls_defined}
use Rattle.high_ir.specs.Size.{local_bytes}
use Rattle.plan_definition.specs.Layouts.{first_of, frame_scalars, homes_of}
use Rattle.plan_definition.specs.Programs.{between, end_of, function_planned, plan_of, program_planned}
use Rattle.plan_forms.specs.Programs.{body_of}
use Rattle.plan_formed.specs.Framed.{ItemsFramed}
use Rattle.types_seen.specs.Fronts.{Definition, IsFront, begun_by, behind, external_by, function_by, functions_of}
use Rattle.plan_served.specs.Layouts.{layout_of, rest_of, signatures_of}
use Rattle.types_seen.specs.Units.{IsUnit}
use Rattle.plan_served.proofs.Fronts.{among}
use Rattle.types_seen.proofs.Fronts.{defined}
use Rattle.plan_served.proofs.Served.{serves_own}
use Rattle.plan_formed.specs.Memory.{FunctionsFramed}
use Rattle.plan_formed.proofs.Memory.{local_most}
use Rattle.plan_law.proofs.Entry.{serves_framed}
use Rattle.plan_formed.specs.Checked.{IsChecked}
use Rattle.plan_formed.proofs.Faults.{no_first, no_second, rest_of as nodes_behind}

-- what stands behind one place of a list
same_heads : (x y : typed.Function) (us vs : List typed.Function) → x ∷ us ≡ y ∷ vs → us ≡ vs
same_heads x y us vs e = cc e

same_suffix : (xs ys : List typed.Function) (x y : typed.Function) (us vs : List typed.Function) → length xs ≡ length ys → xs ++ x ∷ us ≡ ys ++ y ∷ vs → us ≡ vs
same_suffix [] [] x y us vs n e = same_heads x y us vs e
same_suffix [] (w ∷ ys) x y us vs n e = absurd (no_length (length ys) n)
  where
    no_length : (k : ℕ) → 0 ≡ suc k → ⊥
    no_length k e = omega (arith, e)
same_suffix (z ∷ xs) [] x y us vs n e = absurd (no_length (length xs) n)
  where
    no_length : (k : ℕ) → suc k ≡ 0 → ⊥
    no_length k e = omega (arith, e)
same_suffix (z ∷ xs) (w ∷ ys) x y us vs n e = same_suffix xs ys x y us vs (shorter (length xs) (length ys) n) (same_heads z w (xs ++ x ∷ us) (ys ++ y ∷ vs) e)
  where
    shorter : (a b : ℕ) → suc a ≡ suc b → a ≡ b
    shorter a b e = omega (arith, e)

there_is : (xs : List typed.Function) (y : typed.Function) (ys : List typed.Function) → slice_get (xs ++ y ∷ ys) (length xs) ≡ Some y
there_is [] y ys = refl
there_is (x ∷ xs) y ys = there_is xs y ys

one_more : (xs : List typed.Function) (y : typed.Function) (ys : List typed.Function) → xs ++ y ∷ ys ≡ (xs ++ y ∷ []) ++ ys
one_more [] y ys = refl
one_more (x ∷ xs) y ys = ap (λ l. x ∷ l) (one_more xs y ys)

module _ (names : List (List ℕ)) (outline : Outline) (items : Row (External ℕ)) (program : typed.Program) (facts : Facts) (unit : IsUnit outline items program) (are : AreFacts program names facts) (calls : CallsDefined program) where
  own_framed : (front : Row (External ℕ)) (d : Definition) → (part : IsFront (Then front (external_by d)) items) →
      ItemsFramed (homes_of program) (frame_scalars (between program.variables (length (behind outline front).variables) (end_of (among outline items front d part).later (length program.variables)))) (body_of (function_by d (behind outline front)))
  own_framed front d part =
      let now = behind outline front in
      let number = length (functions_of front (started outline)) in
      let end = end_of (among outline items front d part).later (length program.variables) in
      let own = serves_own names outline items program facts unit are calls front d part in
      subst (λ n. ItemsFramed (homes_of program) n (body_of (function_by d now))) own.1
      (serves_framed (layout_of program facts) (signatures_of program) (rest_of program facts) number (length now.variables) (typed_items (kind_spelled d.specifiers) d.body (begun_by d now) typed.NoItem)
      (function_planned (plan_of program facts) program.variables end (slice_index_or facts.ranks.of_functions (0 + number) 0) (function_by d now)) own.0)

  framed_from : (before fs : List typed.Function) → program.functions ≡ before ++ fs → FunctionsFramed (homes_of program) program.variables (length program.variables) fs
  framed_from before [] is = tt
  framed_from before (f ∷ rest) is =
      let x = defined outline items (length before) f (ap (λ l. slice_get l (length before)) (sym unit.functions_are ∙ is) ∙ there_is before f rest) in
      let made = function_by x.definition (behind outline x.front) in
      let a = among outline items x.front x.definition x.part in
      let same = same_suffix before (functions_of x.front (started outline)) f made rest a.later x.number_is (sym is ∙ (unit.functions_are ∙ a.functions_are)) in (
        subst (λ g. ItemsFramed (homes_of program) (frame_scalars (between program.variables (first_of g) (end_of rest (length program.variables)))) (body_of g)) (sym x.function_is)
            (subst (λ l. ItemsFramed (homes_of program) (frame_scalars (between program.variables (first_of made) (end_of l (length program.variables)))) (body_of made)) (sym same) (own_framed x.front x.definition x.part)),
        framed_from (before ++ f ∷ []) rest (is ∙ one_more before f rest),
      )

not_broken : (o : Option Fault) → broken o ≡ None → o ≡ None
not_broken None h = refl
not_broken (Some fault) h = absurd (none-some (Rule fault.rule fault.at) (sym h))

unit_framed : (names : List (List ℕ)) (unit : TranslationUnit ℕ) → fault_of names unit ≡ None → (p : typed.Program) → p ≡ typed_of names unit → (facts : Facts) → AreFacts p names facts → FunctionsFramed (homes_of p) p.variables (length p.variables) p.functions
unit_framed names (Whole items at) passes p is facts are =
    let unit = Whole items at in
    let outline = outline_of names unit in
    let behind_is = no_second (limits_before (size_unit unit).nodes (tally_unit unit)) (or_else (broken (first_fault (unit_nodes outline unit))) (limits_behind (variables_of outline unit))) passes in
    let rules = nodes_behind (SeenUnit unit outline) (externals_nodes items (started outline)) (not_broken (first_fault (unit_nodes outline unit)) (no_first (broken (first_fault (unit_nodes outline unit))) (limits_behind (variables_of outline unit)) behind_is)) in
    framed_from names outline items p facts
    (record { faultless = rules; listed = refl; items_are = ap (λ q. q.items) is; functions_are = ap (λ q. q.functions) is; variables_are = ap (λ q. q.variables) is })
    are (subst CallsDefined (sym is) (calls_defined names items at passes)) [] p.functions refl

-- what is its functions' own
pub bytes_most : (names : List (List ℕ)) (program : typed.Program) (facts : Facts) → IsChecked names program facts → local_bytes (program_planned program facts (main_of program names)) ≤ most_locals
bytes_most names program facts h = local_most names program facts h (unit_framed names h.unit h.passes program h.program_is facts h.facts_are)
