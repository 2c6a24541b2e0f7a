-- The objects that file level declares, and those that functions declare.
use Rattle.std.proofs.Common.{◌≡◌, inl, inr, ⊎_elim, refl, ap, ◌∙◌, sym, ℕ, zero, suc, ◌+◌, ◌<◌, ◌≤◌, Bool, true, false, List, [], ◌∷◌, ◌++◌, drop, length, Some, arith, ltb-true, ltb-false}
use Rattle.std.specs.Prelude.{nat_lt, slice_get}
use Rattle.std.proofs.lemmas.Bool.{false≢true}
use Rattle.std.proofs.lemmas.Option.{none-some, same_Some, slice_get_within}
use Rattle.c_tree.specs.Tree.{Row, Nothing, Then, Object, Declared, Scalar as Single, Unsized, Sized, Objects, Prototype, External, Restriction, Declaring, Function}
use Rattle.types_tree.specs.declared.variable.Duration.{Duration}
use Rattle.types_tree.specs.declared.variable.Duration.TheVariants.{Static, Automatic}
use Rattle.types_tree.specs.declared.variable.Extent.{Extent}
use Rattle.types_tree.specs.declared.variable.Extent.TheVariants.{Scalar, Array as Elements, Parameter as Passed}
use Rattle.types_tree.specs.declared.variable.Variable.{Variable}
use Rattle.types_rules.specs.DeclarationRules.{Base, after_object, base_of, extent_of, is_filled, with_filling}
use Rattle.types_rules.specs.Scope.{Around, Outline, after_row, duration_in, has_scope, in_block, with_object}
use Rattle.types_rules.specs.Sights.{after_external}
use Rattle.types_seen.specs.Growing.{static_count, statics}
use Rattle.types_seen.specs.Fronts.{Definition, IsFront, behind, ended_by, external_by}
use Rattle.types_seen.proofs.Growing.{external_grows, statics-append}
use Rattle.types_seen.proofs.Fronts.{file_level, inside_ended, object_outer, row_outer}
use Rattle.types_seen.proofs.Lists.{extended, slice_get-cases, slice_get-one, slice_get-some}

abbrev pub is_passed_extent : Extent → Bool
is_passed_extent Scalar = false
is_passed_extent (Elements n) = false
is_passed_extent Passed = true

filled_variables : (b : Bool) (a : Around) → (with_filling b a).variables ≡ a.variables
filled_variables true a = refl
filled_variables false a = refl

-- the object that a declaration adds
abbrev pub added : Base → Object ℕ → Around → Variable
added base (Declared name shape initial at) a = record { name = record { 0 = name }; kind = base.kind; extent = extent_of shape initial; duration = duration_in (in_block a) }

pub object_variables : (base : Base) (o : Object ℕ) (a : Around) → (after_object base o a).variables ≡ a.variables ++ added base o a ∷ []
object_variables base (Declared name shape initial at) a = filled_variables (is_filled shape initial a) (with_object name base.kind base.const (extent_of shape initial) a)

pub added_duration : (base : Base) (o : Object ℕ) (a : Around) → (added base o a).duration ≡ duration_in (in_block a)
added_duration base (Declared name shape initial at) a = refl

pub row_block : (base : Base) (objects : Row (Object ℕ)) (a : Around) → in_block a ≡ false → in_block (after_row (after_object base) objects a) ≡ false
row_block base objects a file = ap has_scope (row_outer (after_object base) (object_outer base) objects a) ∙ file

static_row : (base : Base) (objects : Row (Object ℕ)) (a : Around) → in_block a ≡ false → (o : ℕ) (v : Variable) → length a.variables ≤ o → slice_get (after_row (after_object base) objects a).variables o ≡ Some v → v.duration ≡ Static
static_row base Nothing a file o v from e = let lt = slice_get_within a.variables o v e in absurd (omega (arith, from, lt))
static_row base (Then front last) a file o v from e =
    let now = after_row (after_object base) front a in
    ⊎_elim
    (λ (h : slice_get now.variables o ≡ Some v). static_row base front a file o v from h)
    (λ (h : (j : ℕ) × (o ≡ length now.variables + j) × (slice_get (added base last now ∷ []) j ≡ Some v)).
    sym (ap (λ x. x.duration) (slice_get-one (added base last now) h.0 v h.2).1) ∙ added_duration base last now ∙ ap duration_in (row_block base front a file))
    (slice_get-cases now.variables (added base last now ∷ []) o v (sym (ap (λ l. slice_get l o) (object_variables base last now)) ∙ e))

pub not_automatic : (v : Variable) → v.duration ≡ Static → v.duration ≡ Automatic → ⊥
not_automatic v s a = false≢true (ap is_automatic (sym s ∙ a))
  where
    is_automatic : Duration → Bool
    is_automatic Static = false
    is_automatic Automatic = true

-- an object that lives in a frame or is a function's own is declared within the function
pub record IsHeld (outline : Outline) (items : Row (External ℕ)) (object : ℕ) : Type 0 where
  pub front : Row (External ℕ)
  pub definition : Definition
  pub part : IsFront (Then front (external_by definition)) items
  pub from : length (behind outline front).variables ≤ object
  pub below : object < length (ended_by definition (behind outline front)).variables

pub held : (outline : Outline) (items : Row (External ℕ)) (o : ℕ) (v : Variable) → slice_get (behind outline items).variables o ≡ Some v → v.duration ≡ Automatic → IsHeld outline items o
held outline Nothing o v e auto = absurd (none-some v e)
held outline (Then front last) o v e auto = of (nat_lt o (length (behind outline front).variables)) refl (λ w f. held outline front o w f)
  where
    now : Around
    now = behind outline front

    of_last : (x : External ℕ) → length (behind outline front).variables ≤ o → slice_get (after_external x (behind outline front)).variables o ≡ Some v → IsHeld outline (Then front x) o
    of_last (Restriction pragma) from f = let lt = slice_get_within (behind outline front).variables o v f in absurd (omega (arith, from, lt))
    of_last (Declaring (Prototype specifiers name params at)) from f = let lt = slice_get_within (behind outline front).variables o v f in absurd (omega (arith, from, lt))
    of_last (Declaring (Objects specifiers objects at)) from f = absurd (not_automatic v (static_row (base_of specifiers) objects (behind outline front) (file_level outline front) o v from f) auto)
    of_last (Function specifiers name name_at params body body_at at) from f =
        let d : Definition = record { specifiers = specifiers; name = name; name_at = name_at; params = params; body = body; body_at = body_at; at = at } in
        record { front = front; definition = d; part = inl refl; from = from; below = slice_get_within (ended_by d (behind outline front)).variables o v f }

    of : (b : Bool) → nat_lt o (length (behind outline front).variables) ≡ b → ((w : Variable) → slice_get (behind outline front).variables o ≡ Some w → w.duration ≡ Automatic → IsHeld outline front o) → IsHeld outline (Then front last) o
    of true lt more =
        let w = slice_get-some (behind outline front).variables o (ltb-true o (length (behind outline front).variables) lt) in
        let same : w.0 ≡ v = same_Some w.0 v (sym ((external_grows last (behind outline front)).variables_are o w.0 w.1) ∙ e) in
        let h = more w.0 w.1 (ap (λ x. x.duration) same ∙ auto) in
        record { front = h.front; definition = h.definition; part = inr h.part; from = h.from; below = h.below }
    of false ge more = of_last last (ltb-false o (length (behind outline front).variables) ge) e

-- no object of file level is an array that is passed
added_extent : (base : Base) (o : Object ℕ) (a : Around) → is_passed_extent (added base o a).extent ≡ false
added_extent base (Declared name Single initial at) a = refl
added_extent base (Declared name Unsized initial at) a = refl
added_extent base (Declared name (Sized size) initial at) a = refl

row_extent : (base : Base) (objects : Row (Object ℕ)) (a : Around) (o : ℕ) (v : Variable) → length a.variables ≤ o → slice_get (after_row (after_object base) objects a).variables o ≡ Some v → is_passed_extent v.extent ≡ false
row_extent base Nothing a o v from e = let lt = slice_get_within a.variables o v e in absurd (omega (arith, from, lt))
row_extent base (Then front last) a o v from e =
    let now = after_row (after_object base) front a in
    ⊎_elim
    (λ (h : slice_get now.variables o ≡ Some v). row_extent base front a o v from h)
    (λ (h : (j : ℕ) × (o ≡ length now.variables + j) × (slice_get (added base last now ∷ []) j ≡ Some v)). ap (λ x. is_passed_extent x.extent) (sym (slice_get-one (added base last now) h.0 v h.2).1) ∙ added_extent base last now)
    (slice_get-cases now.variables (added base last now ∷ []) o v (sym (ap (λ l. slice_get l o) (object_variables base last now)) ∙ e))

automatic_all : (vs : List Variable) (i : ℕ) (v : Variable) → statics vs ≡ 0 → slice_get vs i ≡ Some v → v.duration ≡ Automatic
automatic_all [] i v none e = absurd (none-some v e)
automatic_all (w ∷ vs) zero v none e = ap (λ x. x.duration) (sym (same_Some w v e)) ∙ no_static w.duration (omega (arith, none))
  where
    no_static : (d : Duration) → static_count d ≡ 0 → d ≡ Automatic
    no_static Static e = absurd (omega (arith, e))
    no_static Automatic e = refl
automatic_all (w ∷ vs) (suc i) v none e = automatic_all vs i v (omega (arith, none)) e

-- what a function declares lives in it
pub own_automatic : (outline : Outline) (front : Row (External ℕ)) (d : Definition) (own : List Variable) (o : ℕ) (v : Variable) → (ended_by d (behind outline front)).variables ≡ (behind outline front).variables ++ own → length (behind outline front).variables ≤ o →
    slice_get (ended_by d (behind outline front)).variables o ≡ Some v → v.duration ≡ Automatic
own_automatic outline front d own o v is from e =
    let now = behind outline front in
    let same : statics (now.variables ++ own) ≡ statics now.variables = ap statics (sym is) ∙ (inside_ended d now).statics_are in
    let sum = statics-append now.variables own in
    ⊎_elim
    (λ (h : slice_get now.variables o ≡ Some v). let lt = slice_get_within now.variables o v h in absurd (omega (arith, from, lt)))
    (λ (h : (j : ℕ) × (o ≡ length now.variables + j) × (slice_get own j ≡ Some v)). automatic_all own h.0 v (omega (arith, same, sum)) h.2)
    (slice_get-cases now.variables own o v (sym (ap (λ l. slice_get l o) is) ∙ e))

pub static_extent : (outline : Outline) (items : Row (External ℕ)) (o : ℕ) (v : Variable) → slice_get (behind outline items).variables o ≡ Some v → v.duration ≡ Static → is_passed_extent v.extent ≡ false
static_extent outline Nothing o v e static = absurd (none-some v e)
static_extent outline (Then front last) o v e static = of (nat_lt o (length (behind outline front).variables)) refl (λ w f g. static_extent outline front o w f g)
  where
    of_last : (x : External ℕ) → length (behind outline front).variables ≤ o → slice_get (after_external x (behind outline front)).variables o ≡ Some v → is_passed_extent v.extent ≡ false
    of_last (Restriction pragma) from f = let lt = slice_get_within (behind outline front).variables o v f in absurd (omega (arith, from, lt))
    of_last (Declaring (Prototype specifiers name params at)) from f = let lt = slice_get_within (behind outline front).variables o v f in absurd (omega (arith, from, lt))
    of_last (Declaring (Objects specifiers objects at)) from f = row_extent (base_of specifiers) objects (behind outline front) o v from f
    of_last (Function specifiers name name_at params body body_at at) from f =
        let d : Definition = record { specifiers = specifiers; name = name; name_at = name_at; params = params; body = body; body_at = body_at; at = at } in
        let now = behind outline front in
        let own = drop (length now.variables) (ended_by d now).variables in
        let is = extended now.variables (ended_by d now).variables (external_grows (external_by d) now).variables_are in
        absurd (not_automatic v static (own_automatic outline front d own o v is from f))

    of : (b : Bool) → nat_lt o (length (behind outline front).variables) ≡ b → ((w : Variable) → slice_get (behind outline front).variables o ≡ Some w → w.duration ≡ Static → is_passed_extent w.extent ≡ false) → is_passed_extent v.extent ≡ false
    of true lt more =
        let w = slice_get-some (behind outline front).variables o (ltb-true o (length (behind outline front).variables) lt) in
        let same : w.0 ≡ v = same_Some w.0 v (sym ((external_grows last (behind outline front)).variables_are o w.0 w.1) ∙ e) in
        ap (λ x. is_passed_extent x.extent) (sym same) ∙ more w.0 w.1 (ap (λ x. x.duration) same ∙ static)
    of false ge more = of_last last (ltb-false o (length (behind outline front).variables) ge) e
