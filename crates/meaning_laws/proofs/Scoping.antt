-- The typed tree of a source has the names of what is there, and its calls fall in rank.
use Rattle.std.proofs.Common.{◌≡◌, ◌⊎◌, inl, inr, ⊎_elim, refl, ap, ◌∙◌, sym, subst, ℕ, zero, suc, ◌+◌, ◌<◌, Bool, true, false, cond, if◌then◌else◌, List, [], ◌∷◌, ◌++◌, length, map, get_or, Option, Some, None, nat_eq, arith, eqb-true, eq-eqb, lt-ltb}
use Rattle.std.specs.Prelude.{◌||◌, ◌&&◌, codes, nat_lt, not, slice_get, slice_index_or}
use Rattle.std.specs.Cmp.Lexicographic.{pointwise}
use Rattle.std.specs.List.{All, list_any}
use Rattle.std.proofs.lemmas.Bool.{false≢true, or_parts, true≢false}
use Rattle.std.proofs.lemmas.List.Elements.{All-head, All-tail}
use Rattle.std.proofs.lemmas.Option.{none-some, same_Some}
use Rattle.c_tree.specs.Tree.{Row, Nothing, Then, Shape, Scalar, Unsized, Sized, Initial, Absent, Value, Listed, Object, Declared, Declaration, Objects, Prototype, External, Restriction, Declaring, Function, TranslationUnit, Whole}
use Rattle.types_rules.specs.Typed.{fault_of, typed_of}
use Rattle.types_calls.specs.Calls.{CallsDefined, calls_below, function_calls, graph_of, initial_calls, items_calls, objects_calls, params_calls, shape_calls}
use Rattle.types_seen.proofs.Calls.{calls_defined, passes_main}
use Rattle.facts_definitions.specs.FlowFacts.{id_in, main_of}
use Rattle.facts_definitions.specs.FlowFacts as flow
use Rattle.facts_definitions.specs.declared.facts.Facts.{Facts}
use Rattle.types_calls.specs.Chains.{Among, AreRanks}
use Rattle.types_tree.specs.Tree as typed
use Rattle.types_tree.specs.Tree.{function_name}
use Rattle.types_tree.specs.declared.variable.Duration.{Duration}
use Rattle.types_tree.specs.declared.variable.Duration.TheVariants.{Static, Automatic}
use Rattle.types_tree.specs.declared.variable.Extent.TheVariants.{Parameter as Passed}
use Rattle.types_tree.specs.declared.variable.Variable.{Variable}
use Rattle.types_value.specs.Kinds.{same_kind}
use Rattle.types_value.specs.declared.kind.Kind.TheVariants.{Int}
use Rattle.types_rules.specs.DeclarationRules.{Base, after_object, base_of, has_no_constant_size, has_no_constant_value, is_filled, is_no_list, param_types, routine, types_of, within_function}
use Rattle.types_rules.specs.Scope.{Around, Outline, after_row, getchar_type, in_block, innermost, left, nothing_yet, putchar_type, routine_of, started, with_definition, with_number, with_routine}
use Rattle.types_rules.specs.declared.scope.Binding.TheVariants.{Function as Routine}
use Rattle.types_rules.specs.Sights.{after_external, declaration_nodes, definitions, external_nodes, has_main, is_main, number_of, object_nodes, objects_nodes, outline_of, SeenDeclaration}
use Rattle.types_rules.specs.Specifiers.{kind_spelled}
use Rattle.types_rules.specs.StatementRules.{in_function}
use Rattle.types_rules.specs.Typing.{and_external, and_object, typed_object, typed_row, typed_shape, typed_declaration, typed_external, filling_of, typed_initial}
use Rattle.types_rules.specs.declared.scope.Routine.{Routine as Signature}
use Rattle.types_seen.specs.Fronts.{Definition, IsFront, begun_by, behind, ended_by, external_by, function_by}
use Rattle.types_seen.specs.Growing.{Grows}
use Rattle.types_seen.specs.Seen.{Knows, Sees}
use Rattle.types_seen.specs.Units.{HasTree, IsUnit}
use Rattle.types_seen.proofs.Rules.{NoFault, faultless_first, faultless_second, parts_keep}
use Rattle.types_seen.proofs.ObjectRules.{keeps_at}
use Rattle.types_seen.proofs.Growing.{grows_same, grows_then, innermost-push, inside_items}
use Rattle.types_seen.proofs.Scopes.{sees_entered, sees_routine, sees_same}
use Rattle.types_seen.proofs.Fronts.{begun_block, defined, defined_outer, file_level, front_grows, front_itself, front_less, inside_ended, part_faultless}
use Rattle.types_seen.proofs.Objects.{is_passed_extent, row_block, static_extent}
use Rattle.types_seen.proofs.Known.{body_faultless, head_faultless, named, type_there}
use Rattle.types_seen.proofs.Units.{of_tree}
use Rattle.meaning_laws.specs.Scoped.{ArePassed, FitFunction, takes}
use Rattle.meaning_laws.proofs.Calls.{CallsNothing, FitExternals, IsScoped, body_calls}
use Rattle.meaning_laws.proofs.Constants.{constant_silent, value_silent, values_silent}
use Rattle.meaning_laws.proofs.Expressions.{IsKnown, IsSeen, arrays_in}
use Rattle.meaning_laws.proofs.Functions.{arrays_by, knows, list_passed}
use Rattle.meaning_laws.proofs.Statements.{declaration_fits, declaration_sees, items_fit, list_sees}

-- calls of objects of file level, whose sizes and values are constants
abbrev is_some : List ℕ → Bool
is_some [] = false
is_some (y ∷ ys) = true

nothing_among : (xs : List ℕ) → xs ≡ [] → (g : ℕ) → Among g xs → ⊥
nothing_among [] e g m = m
nothing_among (x ∷ xs) e g m = true≢false (ap is_some e)

joined : (xs ys : List ℕ) → xs ≡ [] → ys ≡ [] → xs ++ ys ≡ []
joined xs ys e f = ap (λ l. l ++ ys) e ∙ f

shape_silent : (shape : Shape ℕ) (a : Around) → has_no_constant_size shape ≡ false → shape_calls (typed_shape shape a) ≡ []
shape_silent Scalar a h = refl
shape_silent Unsized a h = refl
shape_silent (Sized size) a h = constant_silent size a h

initial_silent : (base : Base) (filling : Option ℕ) (initial : Initial ℕ) (a : Around) → has_no_constant_value initial ≡ false → initial_calls (typed_initial base.kind filling initial a) ≡ []
initial_silent base filling Absent a h = refl
initial_silent base filling (Value value) a h = value_silent base.kind value a h
initial_silent base filling (Listed values comma) a h = values_silent base.kind values a typed.NoExpr h refl

file_value : (block constant : Bool) → block ≡ false → (not block && constant) ≡ false → constant ≡ false
file_value true constant e h = absurd (true≢false e)
file_value false constant e h = h

objects_silent : (base : Base) (objects : Row (Object ℕ)) (a : Around) (rest : List typed.Object) → in_block a ≡ false → NoFault (objects_nodes base objects a) → objects_calls rest ≡ [] → objects_calls (typed_row (after_object base) (and_object base) objects a rest) ≡ []
objects_silent base Nothing a rest file n r = r
objects_silent base (Then front last) a rest file n r =
    let now = after_row (after_object base) front a in
    objects_silent base front a (typed_object base last now ∷ rest) file (faultless_first (objects_nodes base front a) (object_nodes base last now) n)
    (of last now (row_block base front a file) (faultless_second (objects_nodes base front a) (object_nodes base last now) n))
  where
    of : (o : Object ℕ) (now : Around) → in_block now ≡ false → NoFault (object_nodes base o now) → objects_calls (typed_object base o now ∷ rest) ≡ []
    of (Declared name shape initial at) now file n =
        let o = Declared name shape initial at in
        let k = keeps_at base name shape initial at now n in
        let parts = or_parts (has_no_constant_size shape) (not (in_block now) && has_no_constant_value initial) k.constant in
        let filling = filling_of (is_filled shape initial now) now.loops in
        let size = shape_calls (typed_shape shape now) in
        let made = initial_calls (typed_initial base.kind filling initial (after_object base o now)) in
        joined (size ++ made) (objects_calls rest)
        (joined size made (shape_silent shape now parts.0) (initial_silent base filling initial (after_object base o now) (file_value (in_block now) (has_no_constant_value initial) file parts.1))) r

declaration_silent : (d : Declaration ℕ) (a : Around) → in_block a ≡ false → NoFault (declaration_nodes d a) → CallsNothing (typed_declaration d a)
declaration_silent (Objects specifiers objects at) a file n =
    nothing_among (objects_calls (typed_row (after_object (base_of specifiers)) (and_object (base_of specifiers)) objects a []))
    (objects_silent (base_of specifiers) objects a [] file (parts_keep (SeenDeclaration (Objects specifiers objects at) a) (objects_nodes (base_of specifiers) objects a) n) refl)
declaration_silent (Prototype specifiers name params at) a file n = tt

-- calls of functions that are there fall in rank
among_kept : (g n : ℕ) (calls : List ℕ) → g < n → Among g calls → Among g (calls_below n calls)
among_kept g n [] lt m = m
among_kept g n (c ∷ calls) lt m = of (nat_lt c n) refl (λ h. among_kept g n calls lt h) m
  where
    of : (b : Bool) → nat_lt c n ≡ b → (Among g calls → Among g (calls_below n calls)) → (g ≡ c) ⊎ Among g calls → Among g (cond b (c ∷ calls_below n calls) (calls_below n calls))
    of true e more h = ⊎_elim (λ (same : g ≡ c). inl same) (λ (later : Among g calls). inr (more later)) h
    of false e more h = ⊎_elim
        (λ (same : g ≡ c). absurd (false≢true (sym e ∙ ap (λ x. nat_lt x n) (sym same) ∙ lt-ltb g n lt)))
        (λ (later : Among g calls). more later) h

all_among : (P : ℕ → Type 0) (calls : List ℕ) (g : ℕ) → All P calls → Among g calls → P g
all_among P [] g h m = absurd m
all_among P (c ∷ calls) g h m = ⊎_elim
    (λ (same : g ≡ c). subst P (sym same) (All-head P c calls h))
    (λ (later : Among g calls). all_among P calls g (All-tail P c calls h) later) m

all_at : {A : Type 0} (P : A → Type 0) (xs : List A) (i : ℕ) (x : A) → All P xs → slice_get xs i ≡ Some x → P x
all_at P [] i x h e = absurd (none-some x e)
all_at P (y ∷ xs) zero x h e = subst P (same_Some y x e) (All-head P y xs h)
all_at P (y ∷ xs) (suc i) x h e = all_at P xs i x (All-tail P y xs h) e

map_at : (h : typed.Function → List ℕ) (fs : List typed.Function) (i : ℕ) (f : typed.Function) → slice_get fs i ≡ Some f → get_or (map h fs) i [] ≡ h f
map_at h [] i f e = absurd (none-some f e)
map_at h (g ∷ fs) zero f e = ap h (same_Some g f e)
map_at h (g ∷ fs) (suc i) f e = map_at h fs i f e

among_body : (f : typed.Function) (h : ℕ) → Among h (body_calls f) → Among h (function_calls f)
among_body (typed.Defined specifiers name name_at params first body body_at at) h m = behind_all (params_calls params) (items_calls body) m
  where
    behind_all : (xs ys : List ℕ) → Among h ys → Among h (xs ++ ys)
    behind_all [] ys m = m
    behind_all (x ∷ xs) ys m = inr (behind_all xs ys m)

below_is : (program : typed.Program) → CallsDefined program → (g : ℕ) (f : typed.Function) (h : ℕ) → slice_get program.functions g ≡ Some f → Among h (body_calls f) → h < length program.functions
below_is program calls g f h there m =
    let n = length program.functions in
    all_among (λ x. x < n) (function_calls f) h (all_at (λ x. All (λ y. y < n) (function_calls x)) program.functions g f calls there) (among_body f h m)

function_there : (fs : List typed.Function) (h : ℕ) → h < length fs → (k : typed.Function) × (slice_get fs h ≡ Some k)
function_there [] h lt = absurd (omega (arith, lt))
function_there (f ∷ fs) zero lt = (f, refl)
function_there (f ∷ fs) (suc h) lt = function_there fs h (omega (arith, lt))

falls_is : (program : typed.Program) (ranks : List ℕ) → CallsDefined program → AreRanks (graph_of program) ranks → (g : ℕ) (f : typed.Function) (h : ℕ) → slice_get program.functions g ≡ Some f → Among h (body_calls f) → slice_index_or ranks h 0 < slice_index_or ranks g 0
falls_is program ranks calls are g f h there m =
    let n = length program.functions in
    let kept = among_kept h n (function_calls f) (below_is program calls g f h there m) (among_body f h m) in
    are.falls g h (subst (Among h) (sym (map_at (λ x. calls_below n (function_calls x)) program.functions g f there)) kept)

-- the function of a name, by the order of the definitions
after_one : (n : ℕ) → n + 1 ≡ suc n
after_one n = omega arith

index_at : (id : ℕ) (xs : List ℕ) → list_any (nat_eq id) xs ≡ true → slice_get xs (flow.index_of id xs) ≡ Some id
index_at id [] h = absurd (false≢true h)
index_at id (x ∷ xs) h = of (nat_eq id x) refl (λ g. index_at id xs g) h
  where
    of : (b : Bool) → nat_eq id x ≡ b → (list_any (nat_eq id) xs ≡ true → slice_get xs (flow.index_of id xs) ≡ Some id) → (b || list_any (nat_eq id) xs) ≡ true → slice_get (x ∷ xs) (if b then 0 else flow.index_of id xs + 1) ≡ Some id
    of true e more h = ap Some (sym (eqb-true id x e))
    of false e more h = ap (slice_get (x ∷ xs)) (after_one (flow.index_of id xs)) ∙ more h

any_append : (id : ℕ) (xs ys : List ℕ) → list_any (nat_eq id) xs ≡ true → list_any (nat_eq id) (xs ++ ys) ≡ true
any_append id [] ys h = absurd (false≢true h)
any_append id (x ∷ xs) ys h = of (nat_eq id x) (λ g. any_append id xs ys g) h
  where
    of : (b : Bool) → (list_any (nat_eq id) xs ≡ true → list_any (nat_eq id) (xs ++ ys) ≡ true) → (b || list_any (nat_eq id) xs) ≡ true → (b || list_any (nat_eq id) (xs ++ ys)) ≡ true
    of true more h = refl
    of false more h = more h

any_last : (id : ℕ) (xs : List ℕ) → list_any (nat_eq id) (xs ++ id ∷ []) ≡ true
any_last id [] = ap (λ b. b || false) (eq-eqb id id refl)
any_last id (x ∷ xs) = of (nat_eq id x) (any_last id xs)
  where
    of : (b : Bool) → list_any (nat_eq id) (xs ++ id ∷ []) ≡ true → (b || list_any (nat_eq id) (xs ++ id ∷ [])) ≡ true
    of true h = refl
    of false h = h

with_number-keeps : (id n : ℕ) (ns : List ℕ) → list_any (nat_eq id) ns ≡ true → list_any (nat_eq id) (with_number ns n) ≡ true
with_number-keeps id n ns h = of (list_any (nat_eq n) ns)
  where
    of : (b : Bool) → list_any (nat_eq id) (if b then ns else ns ++ n ∷ []) ≡ true
    of true = h
    of false = any_append id ns (n ∷ []) h

with_number-has : (n : ℕ) (ns : List ℕ) → list_any (nat_eq n) (with_number ns n) ≡ true
with_number-has n ns = of (list_any (nat_eq n) ns) refl
  where
    of : (b : Bool) → list_any (nat_eq n) ns ≡ b → list_any (nat_eq n) (if b then ns else ns ++ n ∷ []) ≡ true
    of true e = e
    of false e = any_last n ns

-- main is defined, and takes nothing
record IsMain (outline : Outline) (items : Row (External ℕ)) : Type 0 where
  front : Row (External ℕ)
  definition : Definition
  part : IsFront (Then front (external_by definition)) items
  name_is : definition.name ≡ outline.main
  nothing : is_no_list definition.params ≡ true
  among : list_any (nat_eq outline.main) (definitions items) ≡ true

and3 : (a b c : Bool) → (a && b && c) ≡ true → (a ≡ true) × (b ≡ true) × (c ≡ true)
and3 true true true h = (refl, refl, refl)
and3 true true false h = absurd (false≢true h)
and3 true false c h = absurd (false≢true h)
and3 false b c h = absurd (false≢true h)

definitions_then : (id : ℕ) (front : Row (External ℕ)) (x : External ℕ) → list_any (nat_eq id) (definitions front) ≡ true → list_any (nat_eq id) (definitions (Then front x)) ≡ true
definitions_then id front (Restriction pragma) h = h
definitions_then id front (Declaring d) h = h
definitions_then id front (Function specifiers name name_at params body body_at at) h = with_number-keeps id name (definitions front) h

main_found : (outline : Outline) (items : Row (External ℕ)) → has_main outline.main items ≡ true → IsMain outline items
main_found outline Nothing h = absurd (false≢true h)
main_found outline (Then front last) h = of (has_main outline.main front) refl h (λ g. main_found outline front g)
  where
    of_last : (x : External ℕ) → is_main outline.main x ≡ true → IsMain outline (Then front x)
    of_last (Restriction pragma) h = absurd (false≢true h)
    of_last (Declaring d) h = absurd (false≢true h)
    of_last (Function specifiers name name_at params body body_at at) h =
        let parts = and3 (nat_eq name outline.main) (same_kind (kind_spelled specifiers) Int) (is_no_list params) h in
        let same = eqb-true name outline.main parts.0 in
        record {
          front = front;
          definition = record { specifiers = specifiers; name = name; name_at = name_at; params = params; body = body; body_at = body_at; at = at };
          part = inl refl;
          name_is = same;
          nothing = parts.2;
          among = subst (λ n. list_any (nat_eq n) (with_number (definitions front) name) ≡ true) same (with_number-has name (definitions front));
        }

    of : (b : Bool) → has_main outline.main front ≡ b → (b || is_main outline.main last) ≡ true → (has_main outline.main front ≡ true → IsMain outline front) → IsMain outline (Then front last)
    of true e h more =
        let m = more e in
        record { front = m.front; definition = m.definition; part = inr m.part; name_is = m.name_is; nothing = m.nothing; among = definitions_then outline.main front last m.among }
    of false e h more = of_last last h

same_number : (name : List ℕ) (names : List (List ℕ)) → id_in names name ≡ number_of name names
same_number name [] = refl
same_number name (n ∷ names) = ap (λ m. if pointwise nat_eq n name then 0 else m + 1) (same_number name names)

named_at : (fs : List typed.Function) (i name : ℕ) → slice_get (map function_name fs) i ≡ Some name → (f : typed.Function) × (slice_get fs i ≡ Some f) × (function_name f ≡ name)
named_at [] i name e = absurd (none-some name e)
named_at (f ∷ fs) zero name e = (f, refl, same_Some (function_name f) name e)
named_at (f ∷ fs) (suc i) name e = named_at fs i name e

no_arrays : (r s : Signature) → r ≡ s → arrays_in s.params ≡ [] → arrays_in r.params ≡ []
no_arrays r s e h = ap (λ x. arrays_in x.params) e ∙ h

none_taken : (d : Definition) → is_no_list d.params ≡ true → arrays_in (types_of d.params) ≡ []
none_taken d e = of (is_no_list d.params) e
  where
    of : (b : Bool) → b ≡ true → arrays_in (if b then [] else param_types d.params []) ≡ []
    of true e = refl
    of false e = absurd (false≢true e)

-- what is seen at file level
module _ (outline : Outline) (items : Row (External ℕ)) (program : typed.Program) (unit : IsUnit outline items program) where
  abbrev all : Around
  all = behind outline items

  abbrev known : Knows (IsKnown program.functions) all
  known = knows outline items unit.faultless unit.listed program.functions unit.functions_are

  start_sees : Sees (IsSeen all.variables) (started outline)
  start_sees =
      let none : Sees (IsSeen all.variables) (nothing_yet outline) = record {
        here = λ name b e. absurd (none-some b e);
        outside = λ name b e. absurd (none-some b e);
        typed = λ name e. absurd (none-some Routine e);
        typed_outside = λ name e. absurd (none-some Routine e);
      } in
      sees_routine (IsSeen all.variables) outline.putchar putchar_type (with_routine outline.getchar getchar_type (nothing_yet outline)) tt
      (sees_routine (IsSeen all.variables) outline.getchar getchar_type (nothing_yet outline) tt none)

  external_sees : (x : External ℕ) (a : Around) → Grows (after_external x a) all → Sees (IsSeen all.variables) a → Sees (IsSeen all.variables) (after_external x a)
  external_sees (Restriction pragma) a g s = s
  external_sees (Declaring d) a g s = declaration_sees program.functions all known d a g s
  external_sees (Function specifiers name name_at params body body_at at) a g s =
      let d : Definition = record { specifiers = specifiers; name = name; name_at = name_at; params = params; body = body; body_at = body_at; at = at } in
      let begun = with_routine name (routine specifiers params) a in
      let ended = ended_by d a in
      let grows = grows_then begun ended (left ended) (grows_then begun (within_function specifiers name params a) ended (grows_same begun (within_function specifiers name params a) refl refl refl) (inside_ended d a).grows) (grows_same ended (left ended) refl refl refl) in
      sees_same (IsSeen all.variables) begun (left ended) grows (defined_outer d a) (ap innermost (inside_ended d a).outer_is ∙ innermost-push begun.outer begun.scope) (sees_routine (IsSeen all.variables) name (routine specifiers params) a tt s)

  front_sees : (p : Row (External ℕ)) → IsFront p items → Sees (IsSeen all.variables) (behind outline p)
  front_sees Nothing part = start_sees
  front_sees (Then front last) part = external_sees last (behind outline front) (front_grows outline items (Then front last) part) (front_sees front (front_less front last items part))

  externals_fit : (p : Row (External ℕ)) (rest : List typed.External) → IsFront p items → FitExternals all.variables program.functions rest → FitExternals all.variables program.functions (typed_row after_external and_external p (started outline) rest)
  externals_fit Nothing rest part r = r
  externals_fit (Then front last) rest part r =
      let now = behind outline front in
      externals_fit front (typed_external last now ∷ rest) (front_less front last items part) (of last (front_grows outline items (Then front last) part) (part_faultless outline items front last part unit.faultless))
    where
      of : (x : External ℕ) → Grows (after_external x (behind outline front)) all → NoFault (external_nodes x (behind outline front)) → FitExternals all.variables program.functions (typed_external x (behind outline front) ∷ rest)
      of (Restriction pragma) g n = r
      of (Declaring d) g n =
          let now = behind outline front in
          (declaration_fits program.functions all known d now g (front_sees front (front_less front last items part)) n, declaration_silent d now (file_level outline front) n, r)
      of (Function specifiers name name_at params body body_at at) g n = r

  function_fits : (front : Row (External ℕ)) (d : Definition) → IsFront (Then front (external_by d)) items → FitFunction all.variables program.functions (function_by d (behind outline front))
  function_fits front d part =
      let now = behind outline front in
      let t = routine d.specifiers d.params in
      let n = part_faultless outline items front (external_by d) part unit.faultless in
      let begun = with_routine d.name t now in
      let within = within_function d.specifiers d.name d.params now in
      let inside = begun_by d now in
      let ended = ended_by d now in
      let g : Grows ended all = grows_then ended (left ended) all (grows_same ended (left ended) refl refl refl) (front_grows outline items (Then front (external_by d)) part) in
      let g1 : Grows inside all = grows_then inside ended all (inside_items d.body inside (begun_block d now)).grows g in
      let file = sees_routine (IsSeen all.variables) d.name t now tt (front_sees front (front_less front (external_by d) items part)) in
      let sees = sees_entered (IsSeen all.variables) (with_definition d.name begun) (sees_same (IsSeen all.variables) begun (with_definition d.name begun) (grows_same begun (with_definition d.name begun) refl refl refl) refl refl file) in (
        subst (λ l. ArePassed all.variables (length now.variables) l) (sym (arrays_by outline items unit.faultless unit.listed program.functions unit.functions_are front d part))
            (list_passed all d.params within (head_faultless d now n) g1),
        items_fit program.functions all known (kind_spelled d.specifiers) d.body (in_function (kind_spelled d.specifiers)) inside typed.NoItem g (record { sees = list_sees program.functions all known d.params within g1 sees; block = begun_block d now }) (body_faultless d now n) tt,
      )

  scoped_in : (names : List (List ℕ)) (facts : Facts) → outline.main ≡ number_of (codes "main") names → has_main outline.main items ≡ true → CallsDefined program → AreRanks (graph_of program) facts.ranks.of_functions → IsScoped program facts.ranks.of_functions (main_of program names)
  scoped_in names facts main_is has calls are =
      let m = main_found outline items has in
      let id_is : id_in names (codes "main") ≡ outline.main = same_number (codes "main") names ∙ sym main_is in
      let listed : list_any (nat_eq outline.main) (map function_name program.functions) ≡ true = ap (list_any (nat_eq outline.main)) (ap (map function_name) unit.functions_are ∙ (named outline items unit.faultless).names) ∙ m.among in
      let i = main_of program names in
      let i_is : i ≡ flow.index_of outline.main (map function_name program.functions) = ap (λ n. flow.index_of n (map function_name program.functions)) id_is in
      let there = ap (slice_get (map function_name program.functions)) i_is ∙ index_at outline.main (map function_name program.functions) listed in
      let f = named_at program.functions i outline.main there in
      let x = defined outline items i f.0 (ap (λ l. slice_get l i) (sym unit.functions_are) ∙ f.1) in
      let d = x.definition in
      let name_is : d.name ≡ outline.main = sym (ap function_name x.function_is) ∙ f.2 in
      let one = type_there outline items unit.faultless unit.listed x.front d x.part in
      let two = type_there outline items unit.faultless unit.listed m.front m.definition m.part in
      let same : routine d.specifiers d.params ≡ routine m.definition.specifiers m.definition.params =
      same_Some (routine d.specifiers d.params) (routine m.definition.specifiers m.definition.params) (sym one ∙ ap (λ n. routine_of n all) (name_is ∙ sym m.name_is) ∙ two) in
      record {
        functions = λ g k e. let y = defined outline items g k (ap (λ l. slice_get l g) (sym unit.functions_are) ∙ e) in subst (λ vs. FitFunction vs program.functions k) (sym unit.variables_are) (subst (FitFunction all.variables program.functions) (sym y.function_is) (function_fits y.front y.definition y.part));
        there = λ g k h e a. function_there program.functions h (below_is program calls g k h e a);
        falls = falls_is program facts.ranks.of_functions calls are;
        externals = subst (λ vs. FitExternals vs program.functions program.items) (sym unit.variables_are) (subst (FitExternals all.variables program.functions) (sym unit.items_are) (externals_fit items [] (front_itself items) tt));
        passed = λ o v e extent. of v v.duration refl (λ static. static_extent outline items o v (ap (λ vs. slice_get vs o) (sym unit.variables_are) ∙ e) static) extent;
        main_is = f.0;
        main_there = f.1;
        main_takes =
            ap (λ y. takes (Some y)) x.function_is
            ∙ arrays_by outline items unit.faultless unit.listed program.functions unit.functions_are x.front d x.part
            ∙ no_arrays (routine d.specifiers d.params) (routine m.definition.specifiers m.definition.params) same (none_taken m.definition m.nothing);
      }
    where
      of : (v : Variable) (d : Duration) → v.duration ≡ d → (v.duration ≡ Static → is_passed_extent v.extent ≡ false) → v.extent ≡ Passed → v.duration ≡ Automatic
      of v Automatic e free extent = e
      of v Static e free extent = absurd (true≢false (sym (ap is_passed_extent extent) ∙ free e))

-- the typed tree of a source
pub scoped : (names : List (List ℕ)) (program : typed.Program) (facts : Facts) → HasTree names program → AreRanks (graph_of program) facts.ranks.of_functions → IsScoped program facts.ranks.of_functions (main_of program names)
scoped names program facts tree are =
    let u = of_tree names program tree in
    scoped_in (outline_of names (Whole u.items u.at)) u.items program u.is_unit names facts refl (passes_main names u.items u.at u.passes) (of tree.unit tree.passes tree.program_is) are
  where
    of : (unit : TranslationUnit ℕ) → fault_of names unit ≡ None → program ≡ typed_of names unit → CallsDefined program
    of (Whole items at) passes is = subst CallsDefined (sym is) (calls_defined names items at passes)
