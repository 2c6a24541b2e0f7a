-- The plan of a source whose constants are words is whole.
use Rattle.std.proofs.Common.{◌≡◌, ℕ, zero, suc, ◌+◌, ◌≤◌, List, [], ◌∷◌, length, Some, None, refl, sym, ap, ◌∙◌, subst, arith, All}
use Rattle.std.specs.Prelude.{slice_get, slice_index_or}
use Rattle.std.proofs.lemmas.List.Elements.{All-cons, All-nil}
use Rattle.std.proofs.lemmas.Option.{none-some, same_Some}
use Rattle.facts_definitions.specs.FlowFacts.{AreFacts, main_of}
use Rattle.facts_definitions.specs.Most.{items_most}
use Rattle.facts_definitions.specs.declared.facts.Facts.{Facts}
use Rattle.c_tree.specs.Tree.{External, Row, TranslationUnit, Whole}
use Rattle.types_rules.specs.Limits.{global_bytes, local_bytes}
use Rattle.types_rules.specs.Scope.{Outline, started}
use Rattle.types_rules.specs.Sights.{outline_of}
use Rattle.types_rules.specs.Specifiers.{kind_spelled}
use Rattle.types_rules.specs.Typing.{typed_items}
use Rattle.types_tree.specs.Tree as typed
use Rattle.types_tree.specs.declared.variable.Variable.{Variable}
use Rattle.types_rules.specs.Typed.{fault_of, typed_of}
use Rattle.types_calls.specs.Calls.{CallsDefined}
use Rattle.types_seen.proofs.Calls.{calls_defined}
use Rattle.plan_runs.specs.Serves.{at_entry}
use Rattle.plan_runs.specs.StatementFits.{block_declares, with_live}
use Rattle.plan_forms.specs.Programs.{body_of}
use Rattle.high_ir.specs.Tree.{Function}
use Rattle.high_ir.specs.Whole.{HasWords, IsSmall, IsWhole}
use Rattle.types_seen.specs.Fronts.{begun_by, behind, functions_of}
use Rattle.plan_served.specs.Layouts.{layout_of, signatures_of}
use Rattle.types_seen.specs.Units.{IsUnit}
use Rattle.types_seen.proofs.Fronts.{defined}
use Rattle.plan_formed.specs.Memory.{AllSolid}
use Rattle.plan_formed.proofs.Growing.{externals_grow}
use Rattle.plan_formed.proofs.Memory.{few_globals, few_locals, rules_pass}
use Rattle.plan_definition.specs.Layouts.{frame_scalars, givens, objects_from}
use Rattle.plan_definition.specs.Programs.{between, end_of, function_planned, functions_planned, plan_of, program_planned}
use Rattle.plan_definition.specs.Statements.{Plan}
use Rattle.plan_formed.specs.Checked.{IsChecked}
use Rattle.plan_formed.proofs.Planned.{few_nodes}
use Rattle.plan_served.proofs.Served.{serves_own}
use Rattle.plan_forms.specs.ProgramCosts.{functions_nodes}
use Rattle.plan_formed.proofs.Units.{functions_few}
use Rattle.plan_law.specs.Counts.{ItemsCounted}
use Rattle.plan_law.specs.Words.{FunctionsWords, ProgramWords}
use Rattle.plan_law.proofs.Counting.{items_counted}
use Rattle.plan_law.proofs.Objects.{givens_words, objects_small}
use Rattle.plan_law.proofs.WholeStatements.{body_words}

-- a function has no more nodes than all of them
body_few : (f : typed.Function) (n : ℕ) → functions_nodes (f ∷ []) ≤ n → items_most [] (λ g. 0) (body_of f) ≤ n
body_few (typed.Defined specifiers name name_at params first body body_at at) n le = omega (arith, le)

function_few : (fs : List typed.Function) (i : ℕ) (f : typed.Function) → slice_get fs i ≡ Some f → functions_nodes (f ∷ []) ≤ functions_nodes fs
function_few [] i f e = absurd (none-some f e)
function_few (g ∷ rest) zero f e = subst (λ h. functions_nodes (h ∷ []) ≤ functions_nodes (g ∷ rest)) (same_Some g f e) (omega arith)
function_few (g ∷ rest) (suc i) f e = omega (arith, function_few rest i f e)

-- the labels and lists of each function are counted
module _ (names : List (List ℕ)) (outline : Outline) (items : Row (External ℕ)) (program : typed.Program) (facts : Facts) (unit : IsUnit outline items program) (are : AreFacts program names facts) (calls : CallsDefined program) (few : functions_nodes program.functions ≤ 16384) where
  counted_at : (i : ℕ) (f : typed.Function) → slice_get program.functions i ≡ Some f → ItemsCounted facts.bounds (body_of f)
  counted_at i f e =
      let x = defined outline items i f (ap (λ l. slice_get l i) (sym unit.functions_are) ∙ e) in
      let d = x.definition in
      let now = behind outline x.front in
      let layout = layout_of program facts in
      let signatures = signatures_of program in
      let own = serves_own names outline items program facts unit are calls x.front d x.part in
      let body = typed_items (kind_spelled d.specifiers) d.body (begun_by d now) typed.NoItem in
      let number = length (functions_of x.front (started outline)) in
      let small = body_few f 16384 (omega (arith, few, function_few program.functions i f e)) in
      subst (λ g. ItemsCounted facts.bounds (body_of g)) (sym x.function_is)
      (items_counted layout signatures (signatures.results number) facts.bounds (with_live (at_entry layout signatures number (length now.variables) own.0.variables) (block_declares body)) body own.0.fits
      (subst (λ g. items_most [] (λ h. 0) (body_of g) ≤ 16384) x.function_is small))

-- the code of functions
functions_words : (plan : Plan) (variables : List Variable) (ranks : List ℕ) (fs : List typed.Function) (number : ℕ) → FunctionsWords fs → ((i : ℕ) (f : typed.Function) → slice_get fs i ≡ Some f → ItemsCounted plan.bounds (body_of f)) →
    All (λ (h : Function). HasWords h.body) (functions_planned plan variables ranks number fs)
functions_words plan variables ranks [] number words counted = All-nil (λ (h : Function). HasWords h.body)
functions_words plan variables ranks (typed.Defined specifiers name name_at params first body body_at at ∷ rest) number words counted =
    let f = typed.Defined specifiers name name_at params first body body_at at in
    let end = end_of rest (length variables) in
    All-cons (λ (h : Function). HasWords h.body) (function_planned plan variables end (slice_index_or ranks number 0) f) (functions_planned plan variables ranks (number + 1) rest)
    (body_words plan body (frame_scalars (between variables first end)) words.0 (counted 0 f refl))
    (functions_words plan variables ranks rest (number + 1) words.1 (λ i g e. counted (suc i) g e))

module _ (names : List (List ℕ)) (items : Row (External ℕ)) (at : ℕ) (passes : fault_of names (Whole items at) ≡ None) (p : typed.Program) (is : p ≡ typed_of names (Whole items at)) (words : ProgramWords p) where
  code_words : (facts : Facts) → AreFacts p names facts → All (λ (h : Function). HasWords h.body) (functions_planned (plan_of p facts) p.variables facts.ranks.of_functions 0 p.functions)
  code_words facts are =
      let outline = outline_of names (Whole items at) in
      let unit : IsUnit outline items p = record { faultless = rules_pass names items at passes; listed = refl; items_are = ap (λ q. q.items) is; functions_are = ap (λ q. q.functions) is; variables_are = ap (λ q. q.variables) is } in
      let few : functions_nodes p.functions ≤ 16384 = subst (λ q. functions_nodes q.functions ≤ 16384) (sym is) (omega (arith, functions_few items (started outline) [], few_nodes names (Whole items at) passes)) in
      functions_words (plan_of p facts) p.variables facts.ranks.of_functions p.functions 0 words.functions
      (counted_at names outline items p facts unit are (subst CallsDefined (sym is) (calls_defined names items at passes)) few)

  arrays_small : All IsSmall (objects_from p.variables (givens p.items))
  arrays_small =
      let start = started (outline_of names (Whole items at)) in
      objects_small p.variables (givens p.items) (subst (λ q. AllSolid q.variables) (sym is) ((externals_grow items start (rules_pass names items at passes)).solid tt)) (subst (λ q. global_bytes q.variables ≤ 262144) (sym is) (few_globals names items at passes))
      (subst (λ q. local_bytes q.variables ≤ 262144) (sym is) (few_locals names items at passes)) (givens_words p.items words.externals)

unit_code : (names : List (List ℕ)) (unit : TranslationUnit ℕ) → fault_of names unit ≡ None → (p : typed.Program) → p ≡ typed_of names unit → ProgramWords p → (facts : Facts) → AreFacts p names facts → All (λ (h : Function). HasWords h.body) (functions_planned (plan_of p facts) p.variables facts.ranks.of_functions 0 p.functions)
unit_code names (Whole items at) passes p is words facts are = code_words names items at passes p is words facts are

unit_arrays : (names : List (List ℕ)) (unit : TranslationUnit ℕ) → fault_of names unit ≡ None → (p : typed.Program) → p ≡ typed_of names unit → ProgramWords p → All IsSmall (objects_from p.variables (givens p.items))
unit_arrays names (Whole items at) passes p is words = arrays_small names items at passes p is words

-- the plan of a source that fails no rule, is within the limits and has facts, and whose constants are words
pub planned_is_whole : (names : List (List ℕ)) (program : typed.Program) (facts : Facts) → IsChecked names program facts → ProgramWords program → IsWhole (program_planned program facts (main_of program names))
planned_is_whole names program facts h words = record {
  words = unit_code names h.unit h.passes program h.program_is words facts h.facts_are;
  objects = unit_arrays names h.unit h.passes program h.program_is words;
}
