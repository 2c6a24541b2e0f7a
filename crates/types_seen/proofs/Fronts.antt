-- What is known where a function of a unit is defined.
use Rattle.std.proofs.Common.{◌≡◌, inl, inr, ⊎_elim, refl, ap, ◌∙◌, sym, subst, ℕ, ◌+◌, Bool, true, false, List, [], ◌∷◌, ◌++◌, length, Some, arith, append_assoc}
use Rattle.std.specs.Prelude.{slice_get}
use Rattle.std.proofs.lemmas.Bool.{false≢true}
use Rattle.std.proofs.lemmas.Option.{none-some}
use Rattle.c_tree.specs.Tree.{Row, Nothing, Then, Object, Declared, Declaration, Objects, Prototype, External, Restriction, Declaring, Function}
use Rattle.types_tree.specs.Tree as typed
use Rattle.types_rules.specs.DeclarationRules.{Base, after_declaration, after_object, base_of, extent_of, is_filled, routine, with_filling, within_function}
use Rattle.types_rules.specs.Scope.{Around, Outline, after_row, has_scope, in_block, left, started, with_definition, with_object, with_routine, without_innermost}
use Rattle.types_rules.specs.Sights.{after_external, external_nodes, externals_nodes}
use Rattle.types_rules.specs.Typing.{and_external, typed_external, typed_function, typed_row}
use Rattle.types_seen.specs.Growing.{Grows, Inside}
use Rattle.types_seen.proofs.Rules.{NoFault, faultless_first, faultless_second}
use Rattle.types_seen.proofs.Growing.{external_grows, grows_same, grows_then, in_entered, in_same, inside_items, inside_list, inside_then, without_innermost-push}
use Rattle.types_seen.proofs.Lists.{slice_get-cases, slice_get-one}
use Rattle.types_seen.specs.Fronts.{Definition, IsDefined, IsFront, begun_by, behind, ended_by, function_by, functions_of}

abbrev pub is_nothing : {B : Type 0} → Row B → Bool
is_nothing Nothing = true
is_nothing (Then front last) = false

abbrev front_in : {B : Type 0} → Row B → Row B
front_in Nothing = Nothing
front_in (Then front last) = front

pub front_itself : {B : Type 0} (p : Row B) → IsFront p p
front_itself Nothing = refl
front_itself (Then front last) = inl refl

pub front_less : {B : Type 0} (p : Row B) (x : B) (items : Row B) → IsFront (Then p x) items → IsFront p items
front_less p x Nothing is = absurd (false≢true (ap is_nothing is))
front_less p x (Then front last) is = ⊎_elim
    (λ (e : Then p x ≡ Then front last). inr (subst (λ q. IsFront q front) (sym (ap front_in e)) (front_itself front)))
    (λ (m : IsFront (Then p x) front). inr (front_less p x front m))
    is

pub front_grows : (outline : Outline) (items p : Row (External ℕ)) → IsFront p items → Grows (behind outline p) (behind outline items)
front_grows outline Nothing p is = subst (λ q. Grows (behind outline q) (behind outline Nothing)) (sym is) (grows_same (started outline) (started outline) refl refl refl)
front_grows outline (Then front last) p is =
    let now = behind outline (Then front last) in
    ⊎_elim
    (λ (e : p ≡ Then front last). subst (λ q. Grows (behind outline q) now) (sym e) (grows_same now now refl refl refl))
    (λ (m : IsFront p front). grows_then (behind outline p) (behind outline front) now (front_grows outline front p m) (external_grows last (behind outline front)))
    is

pub front_faultless : (outline : Outline) (items p : Row (External ℕ)) → IsFront p items → NoFault (externals_nodes items (started outline)) → NoFault (externals_nodes p (started outline))
front_faultless outline Nothing p is h = subst (λ q. NoFault (externals_nodes q (started outline))) (sym is) h
front_faultless outline (Then front last) p is h = ⊎_elim
    (λ (e : p ≡ Then front last). subst (λ q. NoFault (externals_nodes q (started outline))) (sym e) h)
    (λ (m : IsFront p front). front_faultless outline front p m (faultless_first (externals_nodes front (started outline)) (external_nodes last (behind outline front)) h))
    is

pub part_faultless : (outline : Outline) (items front : Row (External ℕ)) (last : External ℕ) → IsFront (Then front last) items → NoFault (externals_nodes items (started outline)) → NoFault (external_nodes last (behind outline front))
part_faultless outline items front last is h =
    faultless_second (externals_nodes front (started outline)) (external_nodes last (behind outline front)) (front_faultless outline items (Then front last) is h)

-- the functions of parts
one_function : (x : External ℕ) (a : Around) (rest : List typed.Function) → typed_function x a rest ≡ typed_function x a [] ++ rest
one_function (Restriction pragma) a rest = refl
one_function (Declaring d) a rest = refl
one_function (Function specifiers name name_at params body body_at at) a rest = refl

functions-append : (items : Row (External ℕ)) (a : Around) (rest : List typed.Function) → typed_row after_external typed_function items a rest ≡ functions_of items a ++ rest
functions-append Nothing a rest = refl
functions-append (Then front last) a rest =
    let now = after_row after_external front a in
    functions-append front a (typed_function last now rest)
    ∙ ap (λ l. functions_of front a ++ l) (one_function last now rest)
    ∙ sym (append_assoc (functions_of front a) (typed_function last now []) rest)
    ∙ ap (λ l. l ++ rest) (sym (functions-append front a (typed_function last now [])))

pub functions_then : (front : Row (External ℕ)) (last : External ℕ) (a : Around) → functions_of (Then front last) a ≡ functions_of front a ++ typed_function last (after_row after_external front a) []
functions_then front last a = functions-append front a (typed_function last (after_row after_external front a) [])

pub defined : (outline : Outline) (items : Row (External ℕ)) (number : ℕ) (f : typed.Function) → slice_get (functions_of items (started outline)) number ≡ Some f → IsDefined outline items number f
defined outline Nothing number f e = absurd (none-some f e)
defined outline (Then front last) number f e =
    ⊎_elim
    (λ (h : slice_get (functions_of front (started outline)) number ≡ Some f).
    let d = defined outline front number f h in
    record { front = d.front; definition = d.definition; part = inr d.part; number_is = d.number_is; function_is = d.function_is })
    (λ (h : (j : ℕ) × (number ≡ length (functions_of front (started outline)) + j) × (slice_get (typed_function last (behind outline front) []) j ≡ Some f)). of_last last h.0 h.1 h.2)
    (slice_get-cases (functions_of front (started outline)) (typed_function last (behind outline front) []) number f (sym (ap (λ l. slice_get l number) (functions_then front last (started outline))) ∙ e))
  where
    of_last : (x : External ℕ) (j : ℕ) → number ≡ length (functions_of front (started outline)) + j → slice_get (typed_function x (behind outline front) []) j ≡ Some f → IsDefined outline (Then front x) number f
    of_last (Restriction pragma) j is e = absurd (none-some f e)
    of_last (Declaring d) j is e = absurd (none-some f e)
    of_last (Function specifiers name name_at params body body_at at) j is e =
        let d : Definition = record { specifiers = specifiers; name = name; name_at = name_at; params = params; body = body; body_at = body_at; at = at } in
        let one = slice_get-one (function_by d (behind outline front)) j f e in
        let zero_is = one.0 in
        record { front = front; definition = d; part = inl refl; number_is = omega (arith, is, zero_is); function_is = sym one.1 }

-- from where a function is defined to its end
pub entering : Definition → Around → Around
entering d a = with_definition d.name (with_routine d.name (routine d.specifiers d.params) a)

pub inside_begun : (d : Definition) (a : Around) → Inside (within_function d.specifiers d.name d.params a) (begun_by d a)
inside_begun d a = inside_list d.params (within_function d.specifiers d.name d.params a) (in_entered (with_definition d.name (with_routine d.name (routine d.specifiers d.params) a)))

pub begun_block : (d : Definition) (a : Around) → in_block (begun_by d a) ≡ true
begun_block d a =
    let within = within_function d.specifiers d.name d.params a in
    in_same within (begun_by d a) (inside_begun d a).outer_is (in_entered (with_definition d.name (with_routine d.name (routine d.specifiers d.params) a)))

pub inside_ended : (d : Definition) (a : Around) → Inside (within_function d.specifiers d.name d.params a) (ended_by d a)
inside_ended d a = inside_then (within_function d.specifiers d.name d.params a) (begun_by d a) (ended_by d a) (inside_begun d a) (inside_items d.body (begun_by d a) (begun_block d a))

-- file level
filled_outer : (b : Bool) (a : Around) → (with_filling b a).outer ≡ a.outer
filled_outer true a = refl
filled_outer false a = refl

pub object_outer : (base : Base) (o : Object ℕ) (a : Around) → (after_object base o a).outer ≡ a.outer
object_outer base (Declared name shape initial at) a = filled_outer (is_filled shape initial a) (with_object name base.kind base.const (extent_of shape initial) a)

pub row_outer : {B : Type 0} (step : B → Around → Around) → ((x : B) (a : Around) → (step x a).outer ≡ a.outer) → (xs : Row B) (a : Around) → (after_row step xs a).outer ≡ a.outer
row_outer step keeps Nothing a = refl
row_outer step keeps (Then front last) a = keeps last (after_row step front a) ∙ row_outer step keeps front a

declaration_outer : (d : Declaration ℕ) (a : Around) → (after_declaration d a).outer ≡ a.outer
declaration_outer (Objects specifiers objects at) a = row_outer (after_object (base_of specifiers)) (object_outer (base_of specifiers)) objects a
declaration_outer (Prototype specifiers name params at) a = refl

pub defined_outer : (d : Definition) (a : Around) → (left (ended_by d a)).outer ≡ a.outer
defined_outer d a =
    let begun = with_definition d.name (with_routine d.name (routine d.specifiers d.params) a) in
    ap without_innermost (inside_ended d a).outer_is ∙ without_innermost-push begun.outer begun.scope

external_outer : (x : External ℕ) (a : Around) → (after_external x a).outer ≡ a.outer
external_outer (Restriction pragma) a = refl
external_outer (Declaring d) a = declaration_outer d a
external_outer (Function specifiers name name_at params body body_at at) a =
    defined_outer (record { specifiers = specifiers; name = name; name_at = name_at; params = params; body = body; body_at = body_at; at = at }) a

pub front_outer : (outline : Outline) (p : Row (External ℕ)) → (behind outline p).outer ≡ []
front_outer outline Nothing = refl
front_outer outline (Then front last) = external_outer last (behind outline front) ∙ front_outer outline front

pub file_level : (outline : Outline) (p : Row (External ℕ)) → in_block (behind outline p) ≡ false
file_level outline p = ap has_scope (front_outer outline p)

-- what stands behind the first parts of a unit
abbrev ItemsBehind : Outline → List typed.External → Row (External ℕ) → Type 0
ItemsBehind outline all p = (rest : List typed.External) × (all ≡ typed_row after_external and_external p (started outline) rest)

pub items_behind : (outline : Outline) (items : Row (External ℕ)) (behind_all : List typed.External) (p : Row (External ℕ)) → IsFront p items → ItemsBehind outline (typed_row after_external and_external items (started outline) behind_all) p
items_behind outline Nothing rest p is = subst (ItemsBehind outline rest) (sym is) (rest, refl)
items_behind outline (Then front last) rest p is = ⊎_elim
    (λ (e : p ≡ Then front last). subst (ItemsBehind outline (typed_row after_external and_external (Then front last) (started outline) rest)) (sym e) (rest, refl))
    (λ (m : IsFront p front). items_behind outline front (typed_external last (behind outline front) ∷ rest) p m)
    is
