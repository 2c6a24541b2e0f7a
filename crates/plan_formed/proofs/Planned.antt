-- The plan of a source is a program in the high form.
use Rattle.std.proofs.Common.{◌≡◌, ℕ, zero, suc, ◌+◌, ◌*◌, ◌^◌, ◌<◌, ◌≤◌, Bool, true, false, List, [], ◌∷◌, length, map, codes, Option, Some, None, refl, sym, ap, ◌∙◌, subst, arith, All}
use Rattle.std.specs.Prelude.{if◌then◌else◌, nat_lt, slice_get}
use Rattle.std.specs.List.{flat_map, range_with_len}
use Rattle.std.proofs.lemmas.Bool.{ltb-false}
use Rattle.std.proofs.lemmas.List.{length-map}
use Rattle.std.proofs.lemmas.List.Elements.{All-append, All-cons, All-head, All-nil, All-tail}
use Rattle.std.proofs.lemmas.Option.{none-some}
use Rattle.c_tree.specs.Size.{size_unit}
use Rattle.c_tree.specs.Tree.{Row, External, TranslationUnit, Whole}
use Rattle.types_calls.specs.Calls.{function_calls, CallsDefined}
use Rattle.facts_definitions.specs.FlowFacts.{AreFacts, facts_of, gathered, index_of, known_of, main_of, marker_at, name_id}
use Rattle.types_tree.specs.Tree.{function_name}
use Rattle.facts_definitions.specs.Sites.{sites_of}
use Rattle.facts_definitions.specs.declared.facts.Derived.{Derived}
use Rattle.facts_definitions.specs.declared.facts.Facts.{Facts}
use Rattle.types_tree.specs.Tree as typed
use Rattle.types_tree.specs.declared.variable.Variable.{Variable}
use Rattle.wcc_base.specs.declared.limits.Bound.TheVariants.{Functions, Markers, Nodes, Parameters, Restrictions}
use Rattle.types_rules.specs.Limits.{broken, limit, limits_before, limits_behind, over, tally_unit, variables_of}
use Rattle.types_rules.specs.Scope.{Around, after_row, or_else, started}
use Rattle.types_rules.specs.Sights.{SeenUnit, after_external, externals_nodes, first_fault, outline_of, unit_nodes}
use Rattle.types_rules.specs.declared.fault.Fault.{Fault}
use Rattle.types_rules.specs.declared.fault.TypeFault.TheVariants.{Limit, Rule}
use Rattle.types_rules.specs.Typed.{fault_of, typed_of}
use Rattle.types_seen.proofs.Calls.{calls_defined, passes_main}
use Rattle.high_ir.specs.Formed.{IsHigh, LeavesWithin, RanksFall}
use Rattle.high_ir.specs.Size.{depth, greatest, program_nodes}
use Rattle.high_ir.specs.Standing.{marks_of}
use Rattle.plan_definition.specs.Layouts.{frame_scalars}
use Rattle.plan_definition.specs.Programs.{between, end_of, functions_planned, plan_of, program_planned}
use Rattle.plan_definition.specs.Statements.{Plan}
use Rattle.plan_forms.specs.Forms.{ItemsAllowed}
use Rattle.plan_forms.specs.Programs.{BodiesAllowed, FunctionFormed, body_of, limits_in}
use Rattle.plan_forms.proofs.FormedPrograms.{functions_form, length_planned}
use Rattle.plan_forms.proofs.DeepStatements.{body_below}
use Rattle.plan_forms.specs.Numbers.{FunctionsNumbered, functions_loops}
use Rattle.plan_forms.proofs.NumberedPrograms.{functions_count}
use Rattle.plan_forms.specs.ProgramCosts.{functions_nodes}
use Rattle.plan_forms.proofs.SizedPrograms.{functions_nodes_most}
use Rattle.plan_formed.specs.Placed.{ItemsPlaced}
use Rattle.plan_formed.specs.Units.{FunctionsPlaced, FunctionsShallow}
use Rattle.plan_formed.proofs.Calls.{function_may, items_allowed}
use Rattle.plan_formed.proofs.Faults.{no_first, no_second, rest_of}
use Rattle.plan_formed.proofs.Units.{externals_bounds, externals_markers, functions_few, functions_numbered, functions_placed, functions_shallow, functions_single}
use Rattle.plan_formed.specs.Checked.{IsChecked}
use Rattle.plan_formed.proofs.Facts.{Says, says}
use Rattle.plan_formed.proofs.Main.{main_below, number_is}

-- what a unit that passes keeps
not_broken : (o : Option Fault) → broken o ≡ None → o ≡ None
not_broken None h = refl
not_broken (Some fault) h = absurd (none-some (Rule fault.rule fault.at) (sym h))

rules_pass : (names : List (List ℕ)) (items : Row (External ℕ)) (at : ℕ) → fault_of names (Whole items at) ≡ None → first_fault (externals_nodes items (started (outline_of names (Whole items at)))) ≡ None
rules_pass names items at h =
    let unit = Whole items at in
    let outline = outline_of names unit in
    let behind = no_second (limits_before (size_unit unit).nodes (tally_unit unit)) (or_else (broken (first_fault (unit_nodes outline unit))) (limits_behind (variables_of outline unit))) h in
    rest_of (SeenUnit unit outline) (externals_nodes items (started outline)) (not_broken (first_fault (unit_nodes outline unit)) (no_first (broken (first_fault (unit_nodes outline unit))) (limits_behind (variables_of outline unit)) behind))

not_over : (n : ℕ) → limit Nodes (over Nodes n) ≡ None → n ≤ 16384
not_over n h = of (nat_lt 16384 n) refl h
  where
    of : (b : Bool) → nat_lt 16384 n ≡ b → limit Nodes (if b then Some n else None) ≡ None → n ≤ 16384
    of true e k = absurd (none-some (Limit Nodes n) (sym k))
    of false e k = ltb-false 16384 n e

pub few_nodes : (names : List (List ℕ)) (unit : TranslationUnit ℕ) → fault_of names unit ≡ None → (size_unit unit).nodes ≤ 16384
few_nodes names unit h =
    let nodes = (size_unit unit).nodes in
    let t = tally_unit unit in
    not_over nodes
    (no_first (limit Nodes (over Nodes nodes)) (or_else (limit Functions (over Functions t.functions)) (or_else (limit Parameters t.parameters) (or_else (limit Markers (over Markers t.markers)) (limit Restrictions (over Restrictions t.restrictions)))))
    (no_first (limits_before nodes t) (or_else (broken (first_fault (unit_nodes (outline_of names unit) unit))) (limits_behind (variables_of (outline_of names unit) unit))) h))

-- lists
all_at : {X : Type 0} (P : X → Type 0) (xs : List X) (i : ℕ) (x : X) → All P xs → slice_get xs i ≡ Some x → P x
all_at P [] i x h e = absurd (none-some x e)
all_at P (y ∷ ys) zero x h e = subst P (some_is y x e) (All-head P y ys h)
  where
    some_is : {X : Type 0} (y x : X) → Some y ≡ Some x → y ≡ x
    some_is y x e = cc e
all_at P (y ∷ ys) (suc i) x h e = all_at P ys i x (All-tail P y ys h) e

all_weaken : {X : Type 0} (P Q : X → Type 0) → ((x : X) → P x → Q x) → (xs : List X) → All P xs → All Q xs
all_weaken P Q f [] h = All-nil Q
all_weaken P Q f (x ∷ xs) h = All-cons Q x xs (f x (All-head P x xs h)) (all_weaken P Q f xs (All-tail P x xs h))

all_flat : {X Y : Type 0} (P : Y → Type 0) (g : X → List Y) (xs : List X) → All (λ x. All P (g x)) xs → All P (flat_map g xs)
all_flat P g [] h = All-nil P
all_flat P g (x ∷ xs) h = All-append P (g x) (flat_map g xs) (All-head (λ y. All P (g y)) x xs h) (all_flat P g xs (All-tail (λ y. All P (g y)) x xs h))

placed_at : (markers : ℕ) (fs : List typed.Function) (i : ℕ) (f : typed.Function) → FunctionsPlaced markers fs → slice_get fs i ≡ Some f → ItemsPlaced markers false false (body_of f)
placed_at markers [] i f h e = absurd (none-some f e)
placed_at markers (g ∷ rest) zero f h e = subst (λ x. ItemsPlaced markers false false (body_of x)) (some_is g f e) h.0
  where
    some_is : (g f : typed.Function) → Some g ≡ Some f → g ≡ f
    some_is g f e = cc e
placed_at markers (g ∷ rest) (suc i) f h e = placed_at markers rest i f h.1 e

-- the depth of a plan
functions_below : (plan : Plan) (variables : List Variable) (ranks : List ℕ) (number : ℕ) (fs : List typed.Function) → FunctionsShallow (4 * 253) fs → greatest (λ h. depth h.body) (functions_planned plan variables ranks number fs) ≤ 1024
functions_below plan variables ranks number [] h = omega arith
functions_below plan variables ranks number (typed.Defined specifiers name name_at params first body body_at at ∷ rest) h =
    let own = frame_scalars (between variables first (end_of rest (length variables))) in
    omega (arith, body_below plan body own, h.0, functions_below plan variables ranks (number + 1) rest h.1)

-- the bodies of a program call and mark what they may
bodies_allowed : (program : typed.Program) (facts : Facts) → CallsDefined program → FunctionsPlaced (length facts.markers) program.functions → (names : List (List ℕ)) → AreFacts program names facts →
    BodiesAllowed facts.ranks.of_functions (length program.functions) (length program.functions + length facts.markers) 0 program.functions
bodies_allowed program facts defined placed names are i f e =
    let n = length program.functions in
    let marks = n + length facts.markers in
    subst (λ j. ItemsAllowed (limits_in facts.ranks.of_functions n marks j) false false (body_of f)) (zero_plus i)
    (items_allowed (limits_in facts.ranks.of_functions n marks i) (length facts.markers) refl (body_of f) false false
    (function_may program facts.ranks.of_functions marks are.ranks i f e (all_at (λ g. All (λ number. number < length program.functions) (function_calls g)) program.functions i f defined e))
    (placed_at (length facts.markers) program.functions i f placed e))
  where
    zero_plus : (n : ℕ) → n ≡ 0 + n
    zero_plus n = omega arith

-- the number of `main` is that of a function
pub main_there : (names : List (List ℕ)) (items : Row (External ℕ)) (at : ℕ) → fault_of names (Whole items at) ≡ None → main_of (typed_of names (Whole items at)) names < length (typed_of names (Whole items at)).functions
main_there names items at passes =
    let fs = (typed_of names (Whole items at)).functions in
    subst (λ m. index_of m (map function_name fs) < length fs) (number_is (codes "main") names) (main_below (outline_of names (Whole items at)).main items (started (outline_of names (Whole items at))) (passes_main names items at passes))

-- the facts have as many bounds as there are loops, and as many markers
module _ (names : List (List ℕ)) (items : Row (External ℕ)) (at : ℕ) (passes : fault_of names (Whole items at) ≡ None) where
  abbrev program : typed.Program
  program = typed_of names (Whole items at)

  abbrev start : Around
  start = started (outline_of names (Whole items at))

  bounds_count : (facts : Facts) (derived : List Derived) → Says program names facts.ranks derived facts → length facts.bounds ≡ functions_loops program.functions
  bounds_count facts derived said =
      ap (λ x. length x.bounds) said.facts_are
      ∙ plain (length (facts_of program names facts.ranks derived).bounds) (functions_loops program.functions) (externals_bounds program derived items start [] [] refl refl (rules_pass names items at passes) refl)
    where
      plain : (x y : ℕ) → x + 0 ≡ y + 0 → x ≡ y
      plain x y e = omega (arith, e)

  markers_count : (facts : Facts) (derived : List Derived) → Says program names facts.ranks derived facts → length facts.markers ≡ (after_row after_external items start).markers
  markers_count facts derived said =
      ap (λ x. length x.markers) said.facts_are
      ∙ (length-map (gathered (marker_at names) (sites_of program)) name_id
      ∙ plain (length (gathered (marker_at names) (sites_of program))) (after_row after_external items start).markers
      (externals_markers program (known_of program names derived) names items start [] [] refl (rules_pass names items at passes) refl said.passes).1)
    where
      plain : (x y : ℕ) → x + 0 ≡ y + 0 → x ≡ y
      plain x y e = omega (arith, e)

  unit_planned : (facts : Facts) → AreFacts program names facts → (size_unit (Whole items at)).depth ≤ 256 → IsHigh (program_planned program facts (main_of program names))
  unit_planned facts are shallow =
      let plan = plan_of program facts in
      let order = facts.ranks.of_functions in
      let n = length program.functions in
      let mark_count = n + length facts.markers in
      let fs = functions_planned plan program.variables order 0 program.functions in
      let said = says program names facts.ranks are.derived facts are.whole in
      let rules = rules_pass names items at passes in
      let total = markers_count facts are.derived said in
      let placed : FunctionsPlaced (length facts.markers) program.functions = functions_placed items start [] (length facts.markers) rules (at_most (length facts.markers) (after_row after_external items start).markers total) tt in
      let forms : All (FunctionFormed fs mark_count) fs = functions_form plan program.variables order program.functions mark_count refl (bodies_allowed program facts (calls_defined names items at passes) placed names are) in
      let as_many : length fs ≡ n = length_planned plan program.variables order program.functions 0 in
      record {
        main = subst (λ m. main_of program names < m) (sym as_many) (main_there names items at passes);
        openings = subst (λ m. m ≤ mark_count) (sym as_many) (omega arith);
        others = all_flat (λ m. length fs ≤ m) (λ f. marks_of f.body) fs (all_weaken (FunctionFormed fs mark_count) (λ f. All (λ m. length fs ≤ m) (marks_of f.body)) (λ f h. all_weaken (λ m. (length fs ≤ m) × (m < mark_count)) (λ m. length fs ≤ m) (λ m b. b.0) (marks_of f.body) h.in_range) fs forms);
        marks = all_flat (λ m. m < mark_count) (λ f. marks_of f.body) fs (all_weaken (FunctionFormed fs mark_count) (λ f. All (λ m. m < mark_count) (marks_of f.body)) (λ f h. all_weaken (λ m. (length fs ≤ m) × (m < mark_count)) (λ m. m < mark_count) (λ m b. b.1) (marks_of f.body) h.in_range) fs forms);
        loops = functions_count plan program.variables order program.functions 0 0 (functions_numbered items start [] refl tt) ∙ ap (λ m. range_with_len 0 m) (sym (bounds_count facts are.derived said));
        leaves = all_weaken (FunctionFormed fs mark_count) LeavesWithin (λ f h. h.leaves) fs forms;
        ranks = all_weaken (FunctionFormed fs mark_count) (RanksFall fs) (λ f h. h.ranks) fs forms;
        depth = functions_below plan program.variables order 0 program.functions (functions_shallow items start [] 253 (omega (arith, shallow)) tt);
        nodes = few (program_nodes (program_planned program facts (main_of program names))) (functions_nodes program.functions) (size_unit (Whole items at)).nodes (functions_nodes_most plan program.variables order program.functions 0 (functions_single items start [] tt)) (omega (arith, functions_few items start [])) (few_nodes names (Whole items at) passes);
      }
    where
      at_most : (x y : ℕ) → x ≡ y → y ≤ x
      at_most x y e = omega (arith, e)

      few : (p f u : ℕ) → p ≤ 10 * f → f + 1 ≤ u → u ≤ 16384 → p < 2 ^ 26
      few p f u a b c = omega (arith, a, b, c)

unit_is_high : (names : List (List ℕ)) (unit : TranslationUnit ℕ) → fault_of names unit ≡ None → (size_unit unit).depth ≤ 256 → (program : typed.Program) → program ≡ typed_of names unit → (facts : Facts) → AreFacts program names facts → IsHigh (program_planned program facts (main_of program names))
unit_is_high names (Whole items at) passes shallow p is facts are =
    subst (λ q. IsHigh (program_planned q facts (main_of q names))) (sym is) (unit_planned names items at passes facts (subst (λ q. AreFacts q names facts) is are) shallow)

-- the plan of a source that fails no rule, is within the limits and at most 256 deep, and has facts
pub planned_is_high : (names : List (List ℕ)) (program : typed.Program) (facts : Facts) → IsChecked names program facts → IsHigh (program_planned program facts (main_of program names))
planned_is_high names program facts h = unit_is_high names h.unit h.passes h.shallow program h.program_is facts h.facts_are

-- its typed tree numbers its loops in the order of the source
unit_numbered : (names : List (List ℕ)) (unit : TranslationUnit ℕ) (p : typed.Program) → p ≡ typed_of names unit → FunctionsNumbered 0 p.functions
unit_numbered names (Whole items at) p is = subst (λ q. FunctionsNumbered 0 q.functions) (sym is) (functions_numbered items (started (outline_of names (Whole items at))) [] refl tt)

pub program_numbered : (names : List (List ℕ)) (program : typed.Program) (facts : Facts) → IsChecked names program facts → FunctionsNumbered 0 program.functions
program_numbered names program facts h = unit_numbered names h.unit program h.program_is
