-- A well-typed program and its high program begin alike.
use Rattle.std.proofs.Common.{◌≡◌, inl, inr, ⊎_elim, refl, ap, ◌∙◌, sym, subst, ℕ, ◌+◌, ◌-◌, ◌<◌, ◌≤◌, zero, suc, Bool, true, false, List, [], ◌∷◌, ◌++◌, drop, length, map, replicate, take, Option, Some, None, nat_eq, arith, add-zero, zero-add, eqb-true, eq-eqb}
use Rattle.std.specs.List.{list_any}
use Rattle.std.proofs.lemmas.List.{length-map}
use Rattle.std.proofs.Common.{length-append, length-take-le}
use Rattle.facts_definitions.specs.Sites.{elements}
use Rattle.types_rules.specs.DeclarationRules.{is_no_list, within_function}
use Rattle.types_rules.specs.Limits.{broken, limits_before, limits_behind, tally_unit, variables_of}
use Rattle.types_rules.specs.Scope.{Outline, started}
use Rattle.types_rules.specs.Sights.{externals_nodes, fault_at, first_fault, has_main, is_main, number_of, outline_of, unit_nodes, unit_rule}
use Rattle.types_rules.specs.Specifiers.{kind_spelled}
use Rattle.types_rules.specs.declared.fault.Rule.TheVariants as rules
use Rattle.c_tree.specs.Size.{size_unit}
use Rattle.c_tree.specs.Tree.{Row, Nothing, Then, External, Restriction, Declaring, Function, Whole}
use Rattle.types_rules.specs.Typed.{fault_behind}
use Rattle.types_value.specs.Kinds.{same_kind}
use Rattle.types_value.specs.declared.kind.Kind.TheVariants.{Int}
use Rattle.high_ir.specs.declared.object.Kind.{Kind}
use Rattle.plan_definition.specs.declared.home.Home.{Home}
use Rattle.plan_definition.specs.Programs.{end_of, function_planned, functions_planned, plan_of, program_planned}
use Rattle.plan_runs.specs.Serves.{source_with}
use Rattle.plan_runs.specs.Kept.{Begins, BeginsAlike}
use Rattle.plan_served.specs.Places.{IsHandedOver, IsHome, IsParameterBase}
use Rattle.types_seen.proofs.Rules.{no_rule, none_first, none_second}
use Rattle.types_seen.specs.Fronts.{Definition, IsFront, behind, external_by, function_by, functions_of}
use Rattle.plan_served.specs.Layouts.{constant_by, constant_in, first_in, owner_of, parameters_in, rest_of, signatures_of}
use Rattle.types_seen.specs.Units.{HasTree, IsUnit}
use Rattle.plan_served.proofs.Fronts.{among}
use Rattle.types_seen.proofs.Fronts.{front_faultless, front_less, part_faultless}
use Rattle.plan_served.proofs.Known.{none_listed}
use Rattle.types_seen.proofs.Known.{and3, keeps_head, named}
use Rattle.types_seen.proofs.Lists.{slice_get-behind, slice_get-some}
use Rattle.plan_served.proofs.Placed.{memory_there, memory_within, placed}
use Rattle.types_seen.proofs.Objects.{is_passed_extent, static_extent}
use Rattle.plan_served.proofs.Served.{planned_at}
use Rattle.plan_served.proofs.Statics.{laid}
use Rattle.types_seen.proofs.Units.{not_broken, of_tree}
use Rattle.std.specs.Prelude.{◌||◌, if◌then◌else◌, slice_get, slice_index_or, codes}
use Rattle.std.specs.Cmp.Lexicographic.{pointwise}
use Rattle.std.proofs.lemmas.Bool.{cases_lt, false≢true, or_parts, true≢false}
use Rattle.std.proofs.lemmas.List.{length-replicate}
use Rattle.std.proofs.lemmas.Option.{get_or_from_slice_get, none-some, same_Some, slice_get_within}
use Rattle.facts_definitions.specs.FlowFacts.{AreFacts, id_in, index_of, main_of}
use Rattle.types_tree.specs.Tree.{function_name}
use Rattle.facts_definitions.specs.declared.facts.Facts.{Facts}
use Rattle.meaning_semantics.specs.Runs as source_runs
use Rattle.meaning_semantics.specs.State as source
use Rattle.meaning_semantics.specs.declared.outcome.Flow.{Flow}
use Rattle.types_tree.specs.Tree as typed
use Rattle.types_tree.specs.declared.variable.Duration.{Duration}
use Rattle.types_tree.specs.declared.variable.Duration.TheVariants.{Static, Automatic}
use Rattle.types_tree.specs.declared.variable.Extent.{Extent}
use Rattle.types_tree.specs.declared.variable.Extent.TheVariants.{Scalar, Array as Elements, Parameter as Passed}
use Rattle.types_tree.specs.declared.variable.Variable.{Variable}
use Rattle.high_ir.specs.Meaning.{Contents, can_store}
use Rattle.high_ir.specs.Runs as runs
use Rattle.high_ir.specs.Tree as high
use Rattle.high_ir.specs.Words.{converted}
use Rattle.high_ir.specs.declared.object.Array.{Array}
use Rattle.high_ir.specs.declared.object.Base.TheVariants.{Object as Own}
use Rattle.plan_definition.specs.declared.home.Home.TheVariants.{Memory}
use Rattle.plan_definition.specs.Layouts.{Given, first_given, firsts_of, givens, objects_from, storage_of}
use Rattle.plan_definition.specs.Layouts as plans
use Rattle.plan_definition.specs.Operators.{kind_of}
use Rattle.plan_runs.specs.Cells.{cell, size}
use Rattle.plan_runs.specs.Meets.{Holds, Layout, MeetsWorld, home, kind_at, type_in}
use Rattle.types_seen.specs.Growing.{statics}
use Rattle.plan_served.specs.Layouts.{is_constant_given, layout_of}
use Rattle.plan_served.specs.Rows.{row_of}
use Rattle.plan_served.proofs.Arrays.{array_at, array_of}
use Rattle.plan_served.proofs.Beginning.{BegunIf, IsBegun, IsHeld, all_begun, values_at, values_in}
use Rattle.plan_served.proofs.Ranges.{row_ranged, same_words}

-- the number of a name, and that of main
same_number : (name : List ℕ) (names : List (List ℕ)) → id_in names name ≡ number_of name names
same_number name [] = refl
same_number name (n ∷ names) = ap (λ m. if pointwise nat_eq n name then 0 else m + 1) (same_number name names)

-- what is first of what is left
first_values : (gs : List Given) (k : ℕ) → (first_given (drop k gs)).values ≡ values_in (slice_get gs k)
first_values [] zero = refl
first_values [] (suc k) = refl
first_values (g ∷ gs) zero = refl
first_values (g ∷ gs) (suc k) = first_values gs k

first_constant : (gs : List Given) (k : ℕ) → (first_given (drop k gs)).constant ≡ is_constant_given (slice_get gs k)
first_constant [] zero = refl
first_constant [] (suc k) = refl
first_constant (g ∷ gs) zero = refl
first_constant (g ∷ gs) (suc k) = first_constant gs k

size_same : (e : Extent) → plans.elements_of e ≡ source_runs.size_of e
size_same Scalar = refl
size_same (Elements n) = refl
size_same Passed = refl

mapped : {A B : Type 0} (f : A → B) (xs : List A) (i : ℕ) (x : A) → slice_get xs i ≡ Some x → slice_get (map f xs) i ≡ Some (f x)
mapped f [] i x e = absurd (none-some x e)
mapped f (y ∷ xs) zero x e = ap (λ z. Some (f z)) (same_Some y x e)
mapped f (y ∷ xs) (suc i) x e = mapped f xs i x e

first_row : (constant : Bool) (o : high.Object) → runs.first_elements (storage_of constant) o ≡ take o.size (map (λ v. Some (converted o.kind v)) o.values ++ replicate o.size (Some 0))
first_row true o = refl
first_row false o = refl

stored_where : (constant : Bool) → constant ≡ false → can_store (storage_of constant) ≡ true
stored_where true e = absurd (true≢false e)
stored_where false e = refl

zero_at : (n m : ℕ) → ◌≡◌ {A = ℕ} (slice_index_or (replicate n 0) m 0) 0
zero_at zero m = refl
zero_at (suc n) zero = refl
zero_at (suc n) (suc m) = zero_at n m

unwritten_at : (n i w : ℕ) → slice_index_or (replicate n None) i None ≡ Some w → ⊥
unwritten_at zero i w e = none-some w e
unwritten_at (suc n) zero w e = none-some w e
unwritten_at (suc n) (suc i) w e = unwritten_at n i w e

-- an object and an array of the same elements
holds_by : (st : source.State) (o : ℕ) (kind : Kind) (constant : Bool) (found : Option Contents) (row : List (Option ℕ)) (c : Contents) → slice_get st.objects o ≡ Some row → found ≡ Some c → c.kind ≡ kind → (constant ≡ false → can_store c.storage ≡ true) → c.elements ≡ row → Holds st.objects o kind constant found
holds_by st o kind constant found row c there is kind_is writable same =
    let at : slice_index_or st.objects o [] ≡ row = get_or_from_slice_get st.objects o row [] there in
    record {
      contents = c;
      there = is;
      kind_is = kind_is;
      writable = writable;
      size_is = ap length same ∙ sym (ap length at);
      words = λ i w e. ap (λ l. slice_index_or l i None) (same ∙ sym at) ∙ e;
    }

module _ (outline : Outline) (items : Row (External ℕ)) (program : typed.Program) (facts : Facts) (unit : IsUnit outline items program) (input : List ℕ) (st : source.State) (b : IsBegun program (length facts.markers) input (behind outline items) st) where
  abbrev layout : Layout
  layout = layout_of program facts

  abbrev objects : List high.Object
  objects = objects_from program.variables (givens program.items)

  within : (o : ℕ) → o < length program.variables → o < length (behind outline items).variables
  within o lt = subst (λ l. o < length l) unit.variables_are lt

  held_now : (o : ℕ) (v : Variable) → slice_get program.variables o ≡ Some v → IsHeld program o v v.duration st
  held_now o v e = b.held o v e (within o (slice_get_within program.variables o v e))

  -- the array of an object
  holds : (o n : ℕ) (a : Array) (v : Variable) (d : Duration) → v.duration ≡ d → slice_get program.variables o ≡ Some v → a.kind ≡ kind_of v.kind → slice_get objects n ≡ Some (array_of d v (first_given (drop (statics (take o program.variables)) (givens program.items)))) → IsHeld program o v d st →
      Holds st.objects o a.kind (layout.constant o) (slice_get (map runs.contents objects) n)
  holds o n a v Static static e kind found h =
      let k = statics (take o program.variables) in
      let g = first_given (drop k (givens program.items)) in
      let obj = plans.given_object v g in
      let values : g.values ≡ values_at program o = first_values (givens program.items) k in
      let row : runs.first_elements (storage_of g.constant) obj ≡ row_of (values_at program o) (source_runs.size_of v.extent) =
      first_row g.constant obj
      ∙ ap (λ ws. take obj.size (map (λ w. Some (converted obj.kind w)) ws ++ replicate obj.size (Some 0))) values
      ∙ ap (λ l. take obj.size (l ++ replicate obj.size (Some 0))) (same_words (kind_of v.kind) (values_at program o) h.1)
      ∙ ap (row_of (values_at program o)) (size_same v.extent) in
      let owner = owner_of program o in
      let formal = slice_get (parameters_in (slice_get program.functions owner)) (o - first_in (slice_get program.functions owner)) in
      let constant_is : layout.constant o ≡ g.constant =
      ap (λ x. constant_in x (slice_get (givens program.items) k) formal) e ∙ ap (λ t. constant_by t v.extent (slice_get (givens program.items) k) formal) static ∙ sym (first_constant (givens program.items) k) in
      holds_by st o a.kind (layout.constant o) (slice_get (map runs.contents objects) n) (row_of (values_at program o) (source_runs.size_of v.extent)) (runs.contents obj) h.0 (mapped runs.contents objects n obj found) (sym kind)
      (λ free. stored_where g.constant (sym constant_is ∙ free)) row
  holds o n a v Automatic auto e kind found h =
      let obj = plans.local_object v (plans.elements_of v.extent) in
      holds_by st o a.kind (layout.constant o) (slice_get (map runs.contents objects) n) (source_runs.elements_of v) (runs.contents obj) h (mapped runs.contents objects n obj found) (sym kind) (λ free. refl)
      (ap (λ m. replicate m None) (size_same v.extent) ∙ ap (λ d. replicate (source_runs.size_of v.extent) (source_runs.first_of d)) (sym auto))

  memory_is : (o n : ℕ) (a : Array) → home layout o ≡ Memory a → a.base ≡ Own n → Holds st.objects o a.kind (layout.constant o) (slice_get (map runs.contents objects) n)
  memory_is o n a lives base =
      let lt = memory_within outline items program facts unit o a lives in
      let v = slice_get-some program.variables o lt in
      let there = memory_there outline items program facts unit o a lives in
      let at = array_at (firsts_of program.functions) program.variables 0 (record { variable = 0; parameter = 0; object = 0 }) (givens program.items) o v.0 a n v.1 there base in
      let place : at.place ≡ n = let p = at.place_is in omega (arith, p) in
      let kind : a.kind ≡ kind_of v.0.kind = (placed outline items program facts unit).kinds o a lives ∙ ap (λ x. kind_of (type_in x)) v.1 in
      holds o n a v.0 v.0.duration refl v.1 kind (ap (slice_get objects) (sym place) ∙ at.array_is) (held_now o v.0 v.1)

  -- the sizes of what lives in arrays
  row_length : (ws : List ℕ) (m : ℕ) → length (row_of ws m) ≡ m
  row_length ws m =
      let sum = length-append {A = Option ℕ} (map Some ws) (replicate m (Some 0)) in
      let rest = length-replicate {A = Option ℕ} m (Some 0) in
      length-take-le m (map Some ws ++ replicate m (Some 0)) (omega (arith, sum, rest))

  held_size : (o : ℕ) (v : Variable) (d : Duration) → v.duration ≡ d → IsHeld program o v d st → size st.objects o ≡ source_runs.size_of v.extent
  held_size o v Static static h = ap length (get_or_from_slice_get st.objects o (row_of (values_at program o) (source_runs.size_of v.extent)) [] h.0) ∙ row_length (values_at program o) (source_runs.size_of v.extent)
  held_size o v Automatic auto h = ap length (get_or_from_slice_get st.objects o (source_runs.elements_of v) [] h) ∙ length-replicate (source_runs.size_of v.extent) (source_runs.first_of v.duration)

  size_of_array : (d : Duration) (e : Extent) (h : Home) (n : ℕ) (a : Array) → IsHome d e h → h ≡ Memory a → a.base ≡ Own n → (d ≡ Static → is_passed_extent e ≡ false) → source_runs.size_of e ≡ elements e
  size_of_array Static Scalar h n a is lives base free = refl
  size_of_array Static (Elements m) h n a is lives base free = refl
  size_of_array Static Passed h n a is lives base free = absurd (true≢false (free refl))
  size_of_array Automatic Scalar h n a is lives base free = refl
  size_of_array Automatic (Elements m) h n a is lives base free = refl
  size_of_array Automatic Passed h n a is lives base free = absurd (not_handed h a n is lives base)
    where
      not_handed : (h : Home) (a : Array) (n : ℕ) → IsHandedOver h → h ≡ Memory a → a.base ≡ Own n → ⊥
      not_handed h a n is lives base = subst (λ b. IsParameterBase b) base (subst IsHandedOver lives is)

  sizes : (o n : ℕ) (a : Array) → home layout o ≡ Memory a → a.base ≡ Own n → size st.objects o ≡ layout.sizes o
  sizes o n a lives base =
      let lt = memory_within outline items program facts unit o a lives in
      let v = slice_get-some program.variables o lt in
      let l = laid program facts o v.0 v.1 in
      held_size o v.0 v.0.duration refl (held_now o v.0 v.1)
      ∙ size_of_array v.0.duration v.0.extent (home layout o) n a l.lives lives base (static_extent outline items o v.0 (ap (λ x. slice_get x o) (sym unit.variables_are) ∙ v.1))
      ∙ sym l.size_is

  held_range : (o i w : ℕ) (v : Variable) (d : Duration) → v.duration ≡ d → IsHeld program o v d st → cell st.objects o i ≡ Some w → converted (kind_of v.kind) w ≡ w
  held_range o i w v Static static h e =
      let row = row_of (values_at program o) (source_runs.size_of v.extent) in
      (row_ranged (kind_of v.kind) (values_at program o) (source_runs.size_of v.extent) h.1).by i w (ap (λ l. slice_index_or l i None) (sym (get_or_from_slice_get st.objects o row [] h.0)) ∙ e)
  held_range o i w v Automatic auto h e =
      let here : source_runs.elements_of v ≡ replicate (source_runs.size_of v.extent) None = ap (λ d. replicate (source_runs.size_of v.extent) (source_runs.first_of d)) auto in
      absurd (unwritten_at (source_runs.size_of v.extent) i w (ap (λ l. slice_index_or l i None) (sym (get_or_from_slice_get st.objects o (source_runs.elements_of v) [] h ∙ here)) ∙ e))

  ranged : (o i w : ℕ) → cell st.objects o i ≡ Some w → converted (kind_at layout o) w ≡ w
  ranged o i w e = ⊎_elim
      (λ (lt : o < length program.variables).
      let v = slice_get-some program.variables o lt in
      ap (λ x. converted (kind_of (type_in x)) w) v.1 ∙ held_range o i w v.0 v.0.duration refl (held_now o v.0 v.1) e)
      (λ (ge : length program.variables ≤ o). absurd (none-some w (sym (ap (λ l. slice_index_or l i None) (get_or_none st.objects o (b.beyond o ge))) ∙ e)))
      (cases_lt o (length program.variables))
    where
      get_or_none : (xs : List (List (Option ℕ))) (o : ℕ) → slice_get xs o ≡ None → slice_index_or xs o [] ≡ []
      get_or_none [] o e = refl
      get_or_none (x ∷ xs) zero e = absurd (none-some x (sym e))
      get_or_none (x ∷ xs) (suc o) e = get_or_none xs o e

  pub meets : MeetsWorld layout st (runs.start objects input) []
  meets = record {
    input = sym b.input_is;
    output = sym b.output_is;
    counts = λ m lt. ap (λ l. slice_index_or l m 0) b.counts_are ∙ zero_at (length program.functions + length facts.markers) m;
    marks_are = ap length b.counts_are ∙ length-replicate (length program.functions + length facts.markers) 0;
    memory = memory_is;
    sizes_are = sizes;
    ranged = λ o i w plain e. ranged o i w e;
  }

-- main takes nothing
record IsMain (outline : Outline) (items : Row (External ℕ)) : Type 0 where
  front : Row (External ℕ)
  definition : Definition
  part : IsFront (Then front (external_by definition)) items
  name_is : definition.name ≡ outline.main
  nothing : is_no_list definition.params ≡ true

main_there : (outline : Outline) (items : Row (External ℕ)) → has_main outline.main items ≡ true → IsMain outline items
main_there outline Nothing h = absurd (false≢true h)
main_there outline (Then front last) h = of (has_main outline.main front) refl h (λ g. main_there outline front g)
  where
    of_last : (x : External ℕ) → is_main outline.main x ≡ true → IsMain outline (Then front x)
    of_last (Restriction pragma) h = absurd (false≢true h)
    of_last (Declaring d) h = absurd (false≢true h)
    of_last (Function specifiers name name_at params body body_at at) h =
        let parts = and3 (nat_eq name outline.main) (same_kind (kind_spelled specifiers) Int) (is_no_list params) h in
        record { front = front; definition = record { specifiers = specifiers; name = name; name_at = name_at; params = params; body = body; body_at = body_at; at = at }; part = inl refl; name_is = eqb-true name outline.main parts.0; nothing = parts.2 }

    of : (b : Bool) → has_main outline.main front ≡ b → (b || is_main outline.main last) ≡ true → (has_main outline.main front ≡ true → IsMain outline front) → IsMain outline (Then front last)
    of true e h more = let m = more e in record { front = m.front; definition = m.definition; part = inr m.part; name_is = m.name_is; nothing = m.nothing }
    of false e h more = of_last last h

index_new : (id : ℕ) (xs ys : List ℕ) → list_any (nat_eq id) xs ≡ false → index_of id (xs ++ id ∷ ys) ≡ length xs
index_new id [] ys h = ap (λ b. if b then 0 else index_of id ys + 1) (eq-eqb id id refl)
index_new id (x ∷ xs) ys h =
    let parts = or_parts (nat_eq id x) (list_any (nat_eq id) xs) h in
    ap (λ b. if b then 0 else index_of id (xs ++ id ∷ ys) + 1) parts.0 ∙ one_more (index_of id (xs ++ id ∷ ys)) (length xs) (index_new id xs ys parts.1)
  where
    one_more : (a b : ℕ) → a ≡ b → a + 1 ≡ suc b
    one_more a b e = omega (arith, e)

map-append-names : (xs ys : List typed.Function) → map function_name (xs ++ ys) ≡ map function_name xs ++ map function_name ys
map-append-names [] ys = refl
map-append-names (x ∷ xs) ys = ap (λ l. function_name x ∷ l) (map-append-names xs ys)

is_found : (b : Bool) → (if b then None else Some rules.Main) ≡ None → b ≡ true
is_found true h = refl
is_found false h = absurd (none-some rules.Main (sym h))

pub begins : (names : List (List ℕ)) (program : typed.Program) (facts : Facts) → HasTree names program → AreFacts program names facts →
    Begins (layout_of program facts) (signatures_of program) (rest_of program facts) (program_planned program facts (main_of program names)) (source_runs.start program (length facts.markers))
begins names program facts tree are =
    let u = of_tree names program tree in
    let unit = Whole u.items u.at in
    let outline = outline_of names unit in
    let behind_rules = none_second (limits_before (size_unit unit).nodes (tally_unit unit)) (fault_behind outline unit) u.passes in
    let first = not_broken (first_fault (unit_nodes outline unit)) (none_first (broken (first_fault (unit_nodes outline unit))) (limits_behind (variables_of outline unit)) behind_rules) in
    let rule = no_rule (unit_rule unit outline) u.at (none_first (fault_at (unit_rule unit outline) u.at) (first_fault (externals_nodes u.items (started outline))) first) in
    let m = main_there outline u.items (is_found (has_main outline.main u.items) rule) in
    of outline u.items u.is_unit m (same_number (codes "main") names)
  where
    of : (outline : Outline) (items : Row (External ℕ)) → IsUnit outline items program → IsMain outline items → id_in names (codes "main") ≡ outline.main →
        Begins (layout_of program facts) (signatures_of program) (rest_of program facts) (program_planned program facts (main_of program names)) (source_runs.start program (length facts.markers))
    of outline items unit m same =
        let d = m.definition in
        let now = behind outline m.front in
        let a = among outline items m.front d m.part in
        let before = functions_of m.front (started outline) in
        let number = length before in
        let own = part_faultless outline items m.front (external_by d) m.part unit.faultless in
        let n = named outline m.front (front_faultless outline items m.front (front_less m.front (external_by d) items m.part) unit.faultless) in
        let is_new : list_any (nat_eq d.name) (map function_name before) ≡ false = ap (list_any (nat_eq d.name)) (n.names ∙ sym n.defined) ∙ (keeps_head d now own).new in
        let main_is : main_of program names ≡ number =
        ap (λ id. index_of id (map function_name program.functions)) (same ∙ sym m.name_is)
        ∙ ap (λ fs. index_of d.name (map function_name fs)) (unit.functions_are ∙ a.functions_are)
        ∙ ap (index_of d.name) (map-append-names before (function_by d now ∷ a.later))
        ∙ index_new d.name (map function_name before) (map function_name a.later) is_new
        ∙ length-map before function_name in
        let plan = plan_of program facts in
        let planned = functions_planned plan program.variables facts.ranks.of_functions 0 program.functions in
        let there : slice_get planned number ≡ Some (function_planned plan program.variables (end_of a.later (length program.variables)) (slice_index_or facts.ranks.of_functions (0 + number) 0) (function_by d now)) =
        ap (λ fs. slice_get (functions_planned plan program.variables facts.ranks.of_functions 0 fs) number) (unit.functions_are ∙ a.functions_are)
        ∙ planned_at plan program.variables facts.ranks.of_functions 0 before (function_by d now) a.later in
        let made = function_planned plan program.variables (end_of a.later (length program.variables)) (slice_index_or facts.ranks.of_functions (0 + number) 0) (function_by d now) in
        let function_is : slice_get program.functions number ≡ Some (function_by d now) =
        ap (λ l. slice_get l number) (unit.functions_are ∙ a.functions_are) ∙ ap (slice_get (before ++ function_by d now ∷ a.later)) (sym (add-zero number)) ∙ slice_get-behind before (function_by d now ∷ a.later) 0 in
        record {
          main_rank =
              ap (λ k. slice_index_or (map (λ h. h.rank) planned) k 0) main_is
              ∙ get_or_from_slice_get (map (λ h. h.rank) planned) number made.rank 0 (mapped (λ h. h.rank) planned number made there)
              ∙ ap (λ k. slice_index_or facts.ranks.of_functions k 0) (zero-add number ∙ sym main_is);
          main_takes =
              ap (λ k. parameters_in (slice_get program.functions k)) main_is ∙ ap parameters_in function_is ∙ none_listed d.params (within_function d.specifiers d.name d.params now) m.nothing;
          marks_are = refl;
          alike = λ input. alike outline items unit input
              (source_runs.initialised_all (source_with (layout_of program facts) (rest_of program facts)) (source_runs.calls (source_with (layout_of program facts) (rest_of program facts)) 0) program.items (source_runs.start program (length facts.markers) input))
              (all_begun program facts (length facts.markers) input (behind outline items) unit.variables_are (source_with (layout_of program facts) (rest_of program facts)) (source_runs.calls (source_with (layout_of program facts) (rest_of program facts)) 0) outline items unit refl);
        }
      where
        alike : (outline : Outline) (items : Row (External ℕ)) → IsUnit outline items program → (input : List ℕ) (o : source.Outcome Flow) → BegunIf program (length facts.markers) input (behind outline items) o → BeginsAlike (layout_of program facts) (objects_from program.variables (givens program.items)) input o
        alike outline items unit input (source.Stopped stop) h = tt
        alike outline items unit input (source.Fine flow st) h = meets outline items program facts unit input st h
