-- Each function that is called is known by the type of its definition.
use Rattle.std.proofs.Common.{◌≡◌, inr, refl, ap, ◌∙◌, sym, subst, ℕ, ◌+◌, ◌<◌, zero, suc, Bool, true, false, cond, List, [], ◌∷◌, ◌++◌, length, map, Option, Some, None, nat_eq, arith, one-add, eqb-true, eq-eqb, lt-ltb}
use Rattle.std.specs.Prelude.{◌&&◌, ◌||◌, ◌==◌, if◌then◌else◌, not, slice_get}
use Rattle.std.specs.List.{list_any, position_or_len}
use Rattle.std.specs.Map.{lookup}
use Rattle.std.proofs.lemmas.Bool.{and_parts, false≢true, not-false, or_parts, true≢false}
use Rattle.std.proofs.lemmas.Option.{none-some, same_Some}
use Rattle.c_tree.specs.Tree.{Row, Nothing, Then, Parameter, Shape, Object, Declared, Declaration, Objects, Prototype, External, Restriction, Declaring, Function}
use Rattle.c_tree.specs.declared.expression.Specifier.{Specifier}
use Rattle.types_tree.specs.Tree.{function_name}
use Rattle.types_tree.specs.Tree as typed
use Rattle.types_tree.specs.declared.expression.Callee.{Callee}
use Rattle.types_tree.specs.declared.expression.Callee.TheVariants.{Getchar, Putchar, Function as Own}
use Rattle.types_value.specs.Kinds.{is_void, same_kind}
use Rattle.types_value.specs.declared.kind.Kind.{Kind as CType}
use Rattle.types_rules.specs.DeclarationRules.{Base, after_declaration, after_object, base_of, extent_of, has_bad_param_size, has_no_constant_size, is_filled, with_filling, function_rule, has_other_type, is_no_list, is_object, redeclares, redefines, routine, within_function}
use Rattle.types_rules.specs.ExpressionRules.{when}
use Rattle.types_rules.specs.Scope.{Around, Outline, after_row, found_here, getchar_type, index_of, is_among, left, nothing_yet, or_else, or_zero, putchar_type, routine_of, same_bool, same_param, same_params, same_type, started, with_number, with_object, with_routine, with_type}
use Rattle.types_rules.specs.Sights.{SeenFunction, definitions, external_nodes, externals_nodes, fault_at, first_fault, param_nodes, params_nodes, shape_nodes, items_nodes, body_around}
use Rattle.types_rules.specs.Specifiers.{are_wrong, kind_spelled}
use Rattle.types_rules.specs.StatementRules.{in_function}
use Rattle.types_rules.specs.Types.{has_definition}
use Rattle.types_rules.specs.Typing.{callee_of}
use Rattle.types_rules.specs.declared.fault.Rule.TheVariants as rules
use Rattle.types_rules.specs.declared.scope.ParamType.{ParamType}
use Rattle.types_rules.specs.declared.scope.Routine.{Routine}
use Rattle.types_seen.specs.Growing.{Grows}
use Rattle.types_seen.specs.Seen.{Knows}
use Rattle.types_seen.proofs.Growing.{grows_routine, grows_same, grows_then}
use Rattle.types_seen.proofs.Rules.{NoFault, faultless_first, faultless_second, no_rule, none_first, none_second, not_when, parts_keep}
use Rattle.types_seen.proofs.Scopes.{lookup-new}
use Rattle.types_seen.proofs.KindNumbers.{same_types}
use Rattle.types_seen.specs.Fronts.{Definition, IsFront, begun_by, behind, ended_by, external_by, function_by, functions_of}
use Rattle.types_seen.proofs.Fronts.{defined, front_grows, functions_then, inside_ended, part_faultless}

-- the place of a name among others
position_at : (name : ℕ) (ns : List ℕ) → list_any (nat_eq name) ns ≡ true → (slice_get ns (position_or_len (nat_eq name) ns) ≡ Some name) × (position_or_len (nat_eq name) ns < length ns)
position_at name [] h = absurd (false≢true h)
position_at name (n ∷ ns) h = of (nat_eq name n) refl (λ g. position_at name ns g) h
  where
    of : (b : Bool) → nat_eq name n ≡ b → (list_any (nat_eq name) ns ≡ true → (slice_get ns (position_or_len (nat_eq name) ns) ≡ Some name) × (position_or_len (nat_eq name) ns < length ns)) → (b || list_any (nat_eq name) ns) ≡ true →
        (slice_get (n ∷ ns) (cond (not b) (1 + position_or_len (nat_eq name) ns) 0) ≡ Some name) × (cond (not b) (1 + position_or_len (nat_eq name) ns) 0 < length (n ∷ ns))
    of true e more h = (ap Some (sym (eqb-true name n e)), omega arith)
    of false e more h =
        let m = more h in
        let lt = m.1 in
        (ap (slice_get (n ∷ ns)) (one-add (position_or_len (nat_eq name) ns)) ∙ m.0, omega (arith, lt))

index_there : (name : ℕ) (ns : List ℕ) → is_among name ns ≡ true → slice_get ns (index_of name ns) ≡ Some name
index_there name ns h =
    let p = position_at name ns h in
    let i = position_or_len (nat_eq name) ns in
    ap (λ b. slice_get ns (or_zero (cond b (Some i) None))) (lt-ltb i (length ns) p.1) ∙ p.0

-- no rule fails at the head of a definition
pub record KeepsHead (d : Definition) (a : Around) : Type 0 where
  pub same_type : has_other_type (routine_of d.name a) (routine d.specifiers d.params) ≡ false
  pub new : is_among d.name a.defined ≡ false

pub keeps_head : (d : Definition) (a : Around) → NoFault (external_nodes (external_by d) a) → KeepsHead d a
keeps_head d a h =
    let words = are_wrong true false d.specifiers in
    let t = routine d.specifiers d.params in
    let redeclared = redeclares d.name t a || redefines d.name a in
    let rest = (if is_no_list d.params then [] else params_nodes d.params (within_function d.specifiers d.name d.params a)) ++ items_nodes d.body (body_around d.specifiers d.name d.params a) (in_function (kind_spelled d.specifiers)) in
    let rule = no_rule (function_rule d.specifiers d.name d.params a) d.at (none_first (fault_at (function_rule d.specifiers d.name d.params a) d.at) (first_fault rest) h) in
    let parts = or_parts (redeclares d.name t a) (redefines d.name a) (not_when redeclared rules.Redeclared (none_second (when words rules.Specifiers) (when redeclared rules.Redeclared) rule)) in
    let others = (d.name == a.outline.getchar) || (d.name == a.outline.putchar) in
    record {
      same_type = (or_parts (is_object (found_here d.name a)) (has_other_type (routine_of d.name a) t) parts.0).1;
      new = defined_new (is_among d.name a.defined) (d.name == a.outline.getchar) (d.name == a.outline.putchar) parts.1;
    }
  where
    defined_new : (x y z : Bool) → (x || y || z) ≡ false → x ≡ false
    defined_new true y z h = h
    defined_new false y z h = refl

-- names of functions are those of the definitions, each once
filled_defined : (b : Bool) (a : Around) → (with_filling b a).defined ≡ a.defined
filled_defined true a = refl
filled_defined false a = refl

object_defined : (base : Base) (o : Object ℕ) (a : Around) → (after_object base o a).defined ≡ a.defined
object_defined base (Declared name shape initial at) a = filled_defined (is_filled shape initial a) (with_object name base.kind base.const (extent_of shape initial) a)

row_defined : (base : Base) (objects : Row (Object ℕ)) (a : Around) → (after_row (after_object base) objects a).defined ≡ a.defined
row_defined base Nothing a = refl
row_defined base (Then front last) a = object_defined base last (after_row (after_object base) front a) ∙ row_defined base front a

declaration_defined : (d : Declaration ℕ) (a : Around) → (after_declaration d a).defined ≡ a.defined
declaration_defined (Objects specifiers objects at) a = row_defined (base_of specifiers) objects a
declaration_defined (Prototype specifiers name params at) a = refl

map-then : (xs : List typed.Function) (f : typed.Function) → map function_name (xs ++ f ∷ []) ≡ map function_name xs ++ function_name f ∷ []
map-then [] f = refl
map-then (x ∷ xs) f = ap (λ l. function_name x ∷ l) (map-then xs f)

-- the names of functions, and those that are defined so far
pub record AreNamed (outline : Outline) (items : Row (External ℕ)) : Type 0 where
  pub names : map function_name (functions_of items (started outline)) ≡ definitions items
  pub defined : (behind outline items).defined ≡ definitions items

pub named : (outline : Outline) (items : Row (External ℕ)) → NoFault (externals_nodes items (started outline)) → AreNamed outline items
named outline Nothing h = record { names = refl; defined = refl }
named outline (Then front (Restriction pragma)) h =
    let n = named outline front (faultless_first (externals_nodes front (started outline)) (external_nodes (Restriction pragma) (behind outline front)) h) in
    record { names = n.names; defined = n.defined }
named outline (Then front (Declaring d)) h =
    let n = named outline front (faultless_first (externals_nodes front (started outline)) (external_nodes (Declaring d) (behind outline front)) h) in
    record { names = n.names; defined = declaration_defined d (behind outline front) ∙ n.defined }
named outline (Then front (Function specifiers name name_at params body body_at at)) h =
    let d : Definition = record { specifiers = specifiers; name = name; name_at = name_at; params = params; body = body; body_at = body_at; at = at } in
    let now = behind outline front in
    let n = named outline front (faultless_first (externals_nodes front (started outline)) (external_nodes (external_by d) now) h) in
    let k = keeps_head d now (faultless_second (externals_nodes front (started outline)) (external_nodes (external_by d) now) h) in
    let is_new : list_any (nat_eq name) (definitions front) ≡ false = ap (is_among name) (sym n.defined) ∙ k.new in
    record {
      names =
          ap (map function_name) (functions_then front (external_by d) (started outline))
          ∙ map-then (functions_of front (started outline)) (function_by d now)
          ∙ ap (λ l. l ++ name ∷ []) n.names
          ∙ sym (ap (λ b. if b then definitions front else definitions front ++ name ∷ []) is_new);
      defined = (inside_ended d now).defined_is ∙ ap (λ l. with_number l name) n.defined;
    }

map_at : (fs : List typed.Function) (i name : ℕ) → slice_get (map function_name fs) i ≡ Some name → (f : typed.Function) × (slice_get fs i ≡ Some f) × (function_name f ≡ name)
map_at [] i name e = absurd (none-some name e)
map_at (f ∷ fs) zero name e = (f, refl, same_Some (function_name f) name e)
map_at (f ∷ fs) (suc i) name e = map_at fs i name e

-- types of functions that are one type
pub and3 : (a b c : Bool) → (a && b && c) ≡ true → (a ≡ true) × (b ≡ true) × (c ≡ true)
and3 true true true h = (refl, refl, refl)
and3 true true false h = absurd (false≢true h)
and3 true false c h = absurd (false≢true h)
and3 false b c h = absurd (false≢true h)

same_bools : (a b : Bool) → same_bool a b ≡ true → a ≡ b
same_bools true b h = sym h
same_bools false true h = absurd (false≢true h)
same_bools false false h = refl

param_is : (k l : CType) (a b c d : Bool) → k ≡ l → a ≡ b → c ≡ d → ◌≡◌ {A = ParamType} (record { kind = k; is_array = a; is_const = c }) (record { kind = l; is_array = b; is_const = d })
param_is k l a b c d e f g =
    ap (λ x. record { kind = x; is_array = a; is_const = c }) e
    ∙ ap (λ x. record { kind = l; is_array = x; is_const = c }) f
    ∙ ap (λ x. record { kind = l; is_array = b; is_const = x }) g

pub no_nameless : (specifiers : List Specifier) (shape : Shape ℕ) (at : ℕ) (a : Around) → NoFault (param_nodes (Parameter specifiers None shape at) a) → ⊥
no_nameless specifiers shape at a h =
    let o5 = when true rules.Parameter in
    let o4 = or_else (when (is_void (kind_spelled specifiers)) rules.Void) o5 in
    let o3 = or_else (when (has_bad_param_size shape) rules.Size) o4 in
    let o2 = or_else (when (has_no_constant_size shape) rules.Constant) o3 in
    let o1 = or_else (when (are_wrong false false specifiers) rules.Specifiers) o2 in
    let rule : o1 ≡ None = no_rule o1 at (none_first (fault_at o1 at) (first_fault (shape_nodes shape a)) h) in
    let r2 = none_second (when (are_wrong false false specifiers) rules.Specifiers) o2 rule in
    let r3 = none_second (when (has_no_constant_size shape) rules.Constant) o3 r2 in
    let r4 = none_second (when (has_bad_param_size shape) rules.Size) o4 r3 in
    let r5 = none_second (when (is_void (kind_spelled specifiers)) rules.Void) o5 r4 in
    true≢false (not_when true rules.Parameter r5)

pub head_faultless : (d : Definition) (a : Around) → NoFault (external_nodes (external_by d) a) → NoFault (if is_no_list d.params then [] else params_nodes d.params (within_function d.specifiers d.name d.params a))
head_faultless d a h =
    let listed = if is_no_list d.params then [] else params_nodes d.params (within_function d.specifiers d.name d.params a) in
    let body = items_nodes d.body (begun_by d a) (in_function (kind_spelled d.specifiers)) in
    faultless_first listed body (parts_keep (SeenFunction d.specifiers d.name d.params d.at a) (listed ++ body) h)

pub body_faultless : (d : Definition) (a : Around) → NoFault (external_nodes (external_by d) a) → NoFault (items_nodes d.body (begun_by d a) (in_function (kind_spelled d.specifiers)))
body_faultless d a h =
    let listed = if is_no_list d.params then [] else params_nodes d.params (within_function d.specifiers d.name d.params a) in
    let body = items_nodes d.body (begun_by d a) (in_function (kind_spelled d.specifiers)) in
    faultless_second listed body (parts_keep (SeenFunction d.specifiers d.name d.params d.at a) (listed ++ body) h)

-- functions of one type
same_routine : (p q : Routine) → same_type p q ≡ true → p ≡ q
same_routine p q h =
    let parts = and_parts (same_kind p.result q.result) (same_params p.params q.params) h in
    ap (λ k. record { result = k; params = p.params }) (same_types p.result q.result parts.0) ∙ ap (λ l. record { result = q.result; params = l }) (same_lists p.params q.params parts.1)
  where
    same_one : (p q : ParamType) → same_param p q ≡ true → p ≡ q
    same_one p q h =
        let parts = and3 (same_kind p.kind q.kind) (same_bool p.is_array q.is_array) (same_bool p.is_const q.is_const) h in
        param_is p.kind q.kind p.is_array q.is_array p.is_const q.is_const (same_types p.kind q.kind parts.0) (same_bools p.is_array q.is_array parts.1) (same_bools p.is_const q.is_const parts.2)

    same_lists : (ps qs : List ParamType) → same_params ps qs ≡ true → ps ≡ qs
    same_lists [] [] h = refl
    same_lists [] (q ∷ qs) h = absurd (false≢true h)
    same_lists (p ∷ ps) [] h = absurd (false≢true h)
    same_lists (p ∷ ps) (q ∷ qs) h =
        let parts = and_parts (same_param p q) (same_params ps qs) h in
        ap (λ x. x ∷ ps) (same_one p q parts.0) ∙ ap (λ l. q ∷ l) (same_lists ps qs parts.1)

-- behind the head of its definition a function has that type
pub typed_there : (d : Definition) (a : Around) → KeepsHead d a → routine_of d.name (with_routine d.name (routine d.specifiers d.params) a) ≡ Some (routine d.specifiers d.params)
typed_there d a k = of (routine_of d.name a) refl k.same_type
  where
    t : Routine
    t = routine d.specifiers d.params

    of : (o : Option Routine) → routine_of d.name a ≡ o → has_other_type o t ≡ false → routine_of d.name (with_routine d.name t a) ≡ Some t
    of None e same = ap (λ o. lookup (nat_eq d.name) (with_type o d.name t a.routines)) e ∙ lookup-new d.name t a.routines e
    of (Some known) e same = ap (λ o. lookup (nat_eq d.name) (with_type o d.name t a.routines)) e ∙ e ∙ ap Some (same_routine known t (not-false (same_type known t) same))

-- the function of a name, by the number of the name among the definitions
pub record OfName (outline : Outline) (items : Row (External ℕ)) (name : ℕ) (r : Routine) : Type 0 where
  pub front : Row (External ℕ)
  pub definition : Definition
  pub part : IsFront (Then front (external_by definition)) items
  pub there : slice_get (functions_of items (started outline)) (index_of name outline.definitions) ≡ Some (function_by definition (behind outline front))
  pub type_is : routine definition.specifiers definition.params ≡ r

-- a function by its name
module _ (outline : Outline) (items : Row (External ℕ)) (faultless : NoFault (externals_nodes items (started outline))) (listed : outline.definitions ≡ definitions items) where
  abbrev all : Around
  all = behind outline items

  pub type_there : (front : Row (External ℕ)) (d : Definition) → IsFront (Then front (external_by d)) items → routine_of d.name all ≡ Some (routine d.specifiers d.params)
  type_there front d part =
      let now = behind outline front in
      let t = routine d.specifiers d.params in
      let own = part_faultless outline items front (external_by d) part faultless in
      let begun = with_routine d.name t now in
      let within = within_function d.specifiers d.name d.params now in
      let ended = ended_by d now in
      let last = grows_then ended (left ended) all (grows_same ended (left ended) refl refl refl) (front_grows outline items (Then front (external_by d)) part) in
      let grows : Grows begun all = grows_then begun within all (grows_same begun within refl refl refl) (grows_then within ended all (inside_ended d now).grows last) in
      grows.routines_are d.name t (typed_there d now (keeps_head d now own))

  pub of_name : (name : ℕ) (r : Routine) → routine_of name all ≡ Some r → is_among name outline.definitions ≡ true → OfName outline items name r
  of_name name r e h =
      let i = index_of name outline.definitions in
      let there : slice_get (map function_name (functions_of items (started outline))) i ≡ Some name =
      ap (λ l. slice_get l i) ((named outline items faultless).names ∙ sym listed) ∙ index_there name outline.definitions h in
      let f = map_at (functions_of items (started outline)) i name there in
      let x = defined outline items i f.0 f.1 in
      let d = x.definition in
      let name_is : d.name ≡ name = sym (ap function_name x.function_is) ∙ f.2 in
      record {
        front = x.front;
        definition = d;
        part = x.part;
        there = f.1 ∙ ap Some x.function_is;
        type_is = same_Some (routine d.specifiers d.params) r (sym (type_there x.front d x.part) ∙ ap (λ n. routine_of n all) name_is ∙ e);
      }

  getchar_typed : routine_of outline.getchar (started outline) ≡ Some getchar_type
  getchar_typed =
      let one = with_routine outline.getchar getchar_type (nothing_yet outline) in
      (grows_routine outline.putchar putchar_type one).routines_are outline.getchar getchar_type (ap (λ b. cond b (Some getchar_type) None) (eq-eqb outline.getchar outline.getchar refl))

  putchar_typed : nat_eq outline.putchar outline.getchar ≡ false → routine_of outline.putchar (started outline) ≡ Some putchar_type
  putchar_typed other =
      let one = with_routine outline.getchar getchar_type (nothing_yet outline) in
      let none : routine_of outline.putchar one ≡ None = ap (λ b. cond b (Some getchar_type) None) other in
      ap (λ o. lookup (nat_eq outline.putchar) (with_type o outline.putchar putchar_type one.routines)) none ∙ lookup-new outline.putchar putchar_type one.routines none

  pub since_start : Grows (started outline) all
  since_start = front_grows outline items Nothing (nothing_first items)
    where
      nothing_first : (items : Row (External ℕ)) → IsFront Nothing items
      nothing_first Nothing = refl
      nothing_first (Then front last) = inr (nothing_first front)

  -- what a name calls has the type of the name
  pub known_by : (P : (name : ℕ) → Callee → Routine → Type 0) → ((name : ℕ) → P name Getchar getchar_type) → ((name : ℕ) → P name Putchar putchar_type) → ((name : ℕ) (r : Routine) → OfName outline items name r → P name (Own (record { 0 = index_of name outline.definitions })) r) →
      Knows (λ o name r. P name (callee_of name o) r) all
  known_by P get put own = record { by = λ name r e h. subst (λ o. P name (callee_of name o) r) (sym outline_same) (of name r e (nat_eq name outline.getchar) (nat_eq name outline.putchar) refl refl (ap (has_definition name) (sym outline_same) ∙ h)) }
    where
      outline_same : all.outline ≡ outline
      outline_same = since_start.outline_is

      of : (name : ℕ) (r : Routine) → routine_of name all ≡ Some r → (get put : Bool) → nat_eq name outline.getchar ≡ get → nat_eq name outline.putchar ≡ put → has_definition name outline ≡ true → P name (callee_of name outline) r
      of name r e true b g p h =
          let is : getchar_type ≡ r = same_Some getchar_type r (sym (since_start.routines_are outline.getchar getchar_type getchar_typed) ∙ ap (λ n. routine_of n all) (sym (eqb-true name outline.getchar g)) ∙ e) in
          let callee_is : callee_of name outline ≡ Getchar = ap (λ b. if b then Getchar else (if nat_eq name outline.putchar then Putchar else Own (record { 0 = index_of name outline.definitions }))) g in
          subst (λ c. P name c r) (sym callee_is) (subst (P name Getchar) is (get name))
      of name r e false true g p h =
          let name_is = eqb-true name outline.putchar p in
          let is : putchar_type ≡ r = same_Some putchar_type r (sym (since_start.routines_are outline.putchar putchar_type (putchar_typed (ap (λ n. nat_eq n outline.getchar) (sym name_is) ∙ g))) ∙ ap (λ n. routine_of n all) (sym name_is) ∙ e) in
          let callee_is : callee_of name outline ≡ Putchar =
          ap (λ b. if b then Getchar else (if nat_eq name outline.putchar then Putchar else Own (record { 0 = index_of name outline.definitions }))) g
          ∙ ap (λ b. if b then Putchar else Own (record { 0 = index_of name outline.definitions })) p in
          subst (λ c. P name c r) (sym callee_is) (subst (P name Putchar) is (put name))
      of name r e false false g p h =
          let callee_is : callee_of name outline ≡ Own (record { 0 = index_of name outline.definitions }) =
          ap (λ b. if b then Getchar else (if nat_eq name outline.putchar then Putchar else Own (record { 0 = index_of name outline.definitions }))) g
          ∙ ap (λ b. if b then Putchar else Own (record { 0 = index_of name outline.definitions })) p in
          subst (λ c. P name c r) (sym callee_is)
          (own name r (of_name name r e (sym (ap (λ b. b || nat_eq name outline.putchar || is_among name outline.definitions) g ∙ ap (λ b. b || is_among name outline.definitions) p) ∙ h)))
