-- Objects of file level, and those of functions.
use Rattle.std.proofs.Common.{◌≡◌, refl, ap, ◌∙◌, sym, subst, ℕ, ◌+◌, suc, Bool, true, false, List, [], ◌∷◌, ◌++◌, drop, take, length, Option, Some, arith, add-zero}
use Rattle.std.specs.Prelude.{◌-◌, ◌==◌, ◌||◌, slice_get}
use Rattle.std.specs.List.{list_any}
use Rattle.std.proofs.Math.Seq.{take-append_seam}
use Rattle.std.proofs.lemmas.Option.{get_or_from_slice_get, none-some}
use Rattle.facts_definitions.specs.Sites.{elements_of}
use Rattle.facts_definitions.specs.declared.facts.Facts.{Facts}
use Rattle.c_tree.specs.Tree.{Row, Nothing, Then, Object, Declared, Objects, Prototype, External, Restriction, Declaring, Function}
use Rattle.c_tree.specs.declared.expression.Specifier.{Specifier}
use Rattle.c_tree.specs.declared.expression.Specifier.TheVariants as words
use Rattle.types_tree.specs.Tree as typed
use Rattle.types_tree.specs.declared.variable.Duration.{Duration}
use Rattle.types_tree.specs.declared.variable.Duration.TheVariants.{Static, Automatic}
use Rattle.types_tree.specs.declared.variable.Extent.{Extent}
use Rattle.types_tree.specs.declared.variable.Extent.TheVariants.{Scalar, Array as Elements, Parameter as Passed}
use Rattle.types_tree.specs.declared.variable.Variable.{Variable}
use Rattle.types_rules.specs.DeclarationRules.{Base, after_object, base_of, extent_of, is_filled, routine, with_filling, within_function}
use Rattle.types_rules.specs.Scope.{Around, Outline, after_row, duration_in, in_block, is_array, left, nothing_yet, started, with_object, with_routine, innermost, getchar_type, putchar_type}
use Rattle.types_rules.specs.Sights.{after_external}
use Rattle.types_rules.specs.Specifiers.{has, word_number}
use Rattle.types_rules.specs.Typing.{and_external, and_object, typed_external, typed_object, typed_row}
use Rattle.plan_definition.specs.Layouts.{Given, firsts_of, givens, givens_of, home_by, homes_of}
use Rattle.plan_definition.specs.Layouts as plans
use Rattle.plan_definition.specs.declared.home.Home.{Home}
use Rattle.plan_definition.specs.declared.home.Home.TheVariants.{Frame}
use Rattle.plan_runs.specs.ExpressionFits.{Formal, Function as Place}
use Rattle.plan_runs.specs.Meets.{Layout, home}
use Rattle.types_seen.specs.Growing.{Grows, statics, static_count}
use Rattle.plan_served.specs.Seen.{IsObjectSeen, LivesAs, Sees}
use Rattle.plan_served.specs.Places.{IsHome, IsInMemory, IsLaid, IsStored}
use Rattle.types_seen.proofs.Growing.{external_grows, grows_declared, grows_same, grows_then, innermost-push, slice_get-last, statics-append}
use Rattle.plan_served.proofs.Objects.{laid_kind, static_array, static_scalar}
use Rattle.plan_served.proofs.Seeing.{sees_object, sees_routine, sees_same}
use Rattle.types_seen.specs.Fronts.{Definition, behind, ended_by}
use Rattle.plan_served.specs.Layouts.{constant_by, constant_in, constant_of, first_in, layout_of, owner_of, parameters_in}
use Rattle.types_seen.proofs.Fronts.{defined_outer, file_level, inside_ended}
use Rattle.plan_served.proofs.Homes.{home_is, homes_by}
use Rattle.types_seen.proofs.Lists.{extended}
use Rattle.types_seen.proofs.Objects.{added, added_duration, object_variables, row_block}

-- what a program's layout says of an object
stored_by : (d : Duration) (e : Extent) (given : Option Given) (formal : Option Formal) → IsStored (constant_by d e given formal) d e
stored_by Static extent given formal = tt
stored_by Automatic Scalar given formal = refl
stored_by Automatic (Elements count) given formal = refl
stored_by Automatic Passed given formal = tt

pub home_at : (program : typed.Program) (facts : Facts) (object : ℕ) (h : Home) → slice_get (homes_of program) object ≡ Some h → home (layout_of program facts) object ≡ h
home_at program facts object h e = get_or_from_slice_get (homes_of program) object h (Frame 0) e

pub laid : (program : typed.Program) (facts : Facts) (object : ℕ) (v : Variable) → slice_get program.variables object ≡ Some v → IsLaid (layout_of program facts) object v
laid program facts object v e =
    let h = homes_by (firsts_of program.functions) program.variables 0 (record { variable = 0; parameter = 0; object = 0 }) object v e in
    let given = slice_get (givens program.items) (statics (take object program.variables)) in
    let owner = owner_of program object in
    let formal = slice_get (parameters_in (slice_get program.functions owner)) (object - first_in (slice_get program.functions owner)) in
    record {
      variable_is = e;
      lives = subst (IsHome v.duration v.extent) (sym (home_at program facts object (home_by v.duration v.extent v h.0) h.1)) (home_is v.duration v.extent v h.0);
      size_is = ap elements_of e;
      stored = subst (λ o. IsStored (constant_in o given formal) v.duration v.extent) (sym e) (stored_by v.duration v.extent given formal);
    }

-- the first values of objects from a number on
pub record HaveGivens (program : typed.Program) (number : ℕ) (given : List Given) : Type 0 where
  pub by : (i : ℕ) (g : Given) → slice_get given i ≡ Some g → slice_get (givens program.items) (number + i) ≡ Some g

pub givens_later : (program : typed.Program) (n m : ℕ) (g : Given) (gs : List Given) → m ≡ n + 1 → HaveGivens program n (g ∷ gs) → HaveGivens program m gs
givens_later program n m g gs e h = record { by = λ i x is. ap (slice_get (givens program.items)) (next n m i e) ∙ h.by (suc i) x is }
  where
    next : (n m i : ℕ) → m ≡ n + 1 → m + i ≡ n + suc i
    next n m i e = omega (arith, e)

pub one_static : (base : Base) (o : Object ℕ) (a : Around) → in_block a ≡ false → statics (after_object base o a).variables ≡ statics a.variables + 1
one_static base o a file =
    let h = statics-append a.variables (added base o a ∷ []) in
    let n : static_count (added base o a).duration ≡ 1 = ap static_count (added_duration base o a ∙ ap duration_in file) in
    ap statics (object_variables base o a) ∙ sum_of (statics (a.variables ++ added base o a ∷ [])) (statics a.variables) (static_count (added base o a).duration) h n
  where
    sum_of : (x y z : ℕ) → x ≡ y + (z + 0) → z ≡ 1 → x ≡ y + 1
    sum_of x y z h n = omega (arith, h, n)

const_same : (specifiers : List Specifier) → list_any plans.is_const specifiers ≡ has words.Const specifiers
const_same [] = refl
const_same (word ∷ rest) = ap (λ b. b || list_any plans.is_const rest) (of word) ∙ ap (λ b. (word_number word == word_number words.Const) || b) (const_same rest)
  where
    of : (word : Specifier) → plans.is_const word ≡ (word_number word == word_number words.Const)
    of words.Static = refl
    of words.Extern = refl
    of words.Inline = refl
    of words.Const = refl
    of words.Void = refl
    of words.Char = refl
    of words.Short = refl
    of words.Int = refl
    of words.Long = refl
    of words.Signed = refl
    of words.Unsigned = refl

abbrev pub given_of : (constant : Bool) → typed.Object → Given
given_of constant (typed.Declared object shape initial at) = record { constant = constant; values = plans.initial_words initial }

pub given_first : (constant : Bool) (o : typed.Object) (rest : List typed.Object) (more : List Given) → givens_of constant (o ∷ rest) more ≡ given_of constant o ∷ givens_of constant rest more
given_first constant (typed.Declared object shape initial at) rest more = refl

given_constant : (constant : Bool) (o : typed.Object) → (given_of constant o).constant ≡ constant
given_constant constant (typed.Declared object shape initial at) = refl

-- what a program's file level declares is seen from each function
module _ (program : typed.Program) (facts : Facts) (all : Around) (variables_are : program.variables ≡ all.variables) (f : Place) where
  abbrev layout : Layout
  layout = layout_of program facts

  abbrev SeesAll : Around → Type 0
  SeesAll a = Sees layout f a

  -- what was declared before is in front
  statics_before : (a : Around) → Grows a all → statics (take (length a.variables) program.variables) ≡ statics a.variables
  statics_before a g =
      ap (λ l. statics (take (length a.variables) l)) (variables_are ∙ extended a.variables all.variables g.variables_are)
      ∙ ap statics (take-append_seam a.variables (drop (length a.variables) all.variables))

  there : (base : Base) (o : Object ℕ) (a : Around) → Grows (after_object base o a) all → slice_get program.variables (length a.variables) ≡ Some (added base o a)
  there base o a g =
      ap (λ l. slice_get l (length a.variables)) variables_are
      ∙ g.variables_are (length a.variables) (added base o a) (ap (λ l. slice_get l (length a.variables)) (object_variables base o a) ∙ slice_get-last a.variables (added base o a))

  static_there : (base : Base) (o : Object ℕ) (a : Around) → in_block a ≡ false → (added base o a).duration ≡ Static
  static_there base o a file = added_duration base o a ∙ ap duration_in file

  -- its constant is that of its declaration
  pub constant_is : (base : Base) (o : Object ℕ) (a : Around) (given : Given) (gs : List Given) → in_block a ≡ false → Grows (after_object base o a) all → HaveGivens program (statics a.variables) (given ∷ gs) → constant_of program (length a.variables) ≡ given.constant
  constant_is base o a given gs file g h =
      let n = length a.variables in
      let before = grows_then a (after_object base o a) all (grows_declared base o a) g in
      let owner = owner_of program n in
      let formal = slice_get (parameters_in (slice_get program.functions owner)) (n - first_in (slice_get program.functions owner)) in
      let found : slice_get (givens program.items) (statics (take n program.variables)) ≡ Some given =
      ap (slice_get (givens program.items)) (statics_before a before ∙ sym (add-zero (statics a.variables))) ∙ h.by 0 given refl in
      let v = added base o a in
      ap (λ x. constant_in x (slice_get (givens program.items) (statics (take n program.variables))) formal) (there base o a g)
      ∙ ap (λ x. constant_by v.duration v.extent x formal) found
      ∙ ap (λ d. constant_by d v.extent (Some given) formal) (static_there base o a file)

  lives_static : (extent : Extent) (object : ℕ) → IsInMemory (home layout object) → LivesAs (is_array extent) layout f object
  lives_static Scalar object is = static_scalar layout f object (home layout object) is
  lives_static (Elements n) object is = static_array layout f object (home layout object) is
  lives_static Passed object is = static_array layout f object (home layout object) is

  sees_static : (base : Base) (o : Object ℕ) (a : Around) (given : Given) (gs : List Given) → in_block a ≡ false → Grows (after_object base o a) all → HaveGivens program (statics a.variables) (given ∷ gs) → given.constant ≡ base.const → SeesAll a → SeesAll (after_object base o a)
  sees_static base (Declared name shape initial at) a given gs file g h const s =
      let o = Declared name shape initial at in
      let n = length a.variables in
      let extent = extent_of shape initial in
      let v = added base o a in
      let l = laid program facts n v (there base o a g) in
      let with = with_object name base.kind base.const extent a in
      let memory : IsInMemory (home layout n) = subst (λ d. IsHome d extent (home layout n)) (static_there base o a file) l.lives in
      let seen : IsObjectSeen layout f n base.kind base.const (is_array extent) =
      record { kind_is = laid_kind layout n v l; stores = λ e. constant_is base o a given gs file g h ∙ const ∙ e; lives = lives_static extent n memory } in
      filled_sees (is_filled shape initial a) with (sees_object layout f name base.kind base.const extent a s seen)
    where
      filled_sees : (b : Bool) (x : Around) → SeesAll x → SeesAll (with_filling b x)
      filled_sees true x s = sees_same layout f x (with_filling true x) (grows_same x (with_filling true x) refl refl refl) refl refl s
      filled_sees false x s = s

  sees_row : (specifiers : List Specifier) (objects : Row (Object ℕ)) (a : Around) (rest : List typed.Object) (gs : List Given) → in_block a ≡ false → Grows (after_row (after_object (base_of specifiers)) objects a) all →
      HaveGivens program (statics a.variables) (givens_of (list_any plans.is_const specifiers) (typed_row (after_object (base_of specifiers)) (and_object (base_of specifiers)) objects a rest) gs) → SeesAll a →
      SeesAll (after_row (after_object (base_of specifiers)) objects a) × HaveGivens program (statics (after_row (after_object (base_of specifiers)) objects a).variables) (givens_of (list_any plans.is_const specifiers) rest gs)
  sees_row specifiers Nothing a rest gs file g h s = (s, h)
  sees_row specifiers (Then front last) a rest gs file g h s =
      let base = base_of specifiers in
      let now = after_row (after_object base) front a in
      let made = typed_object base last now in
      let constant = list_any plans.is_const specifiers in
      let before = grows_then now (after_object base last now) all (grows_declared base last now) g in
      let ih = sees_row specifiers front a (made ∷ rest) gs file before h s in
      let here = row_block base front a file in
      let given = given_of constant made in
      let hg : HaveGivens program (statics now.variables) (given ∷ givens_of constant rest gs) = subst (HaveGivens program (statics now.variables)) (given_first constant made rest gs) ih.1 in (
        sees_static base last now given (givens_of constant rest gs) here g hg (given_constant constant made ∙ const_same specifiers) ih.0,
        givens_later program (statics now.variables) (statics (after_object base last now).variables) given (givens_of constant rest gs) (one_static base last now here) hg,
      )

  sees_started : (outline : Outline) → SeesAll (started outline)
  sees_started outline =
      sees_routine layout f outline.putchar putchar_type (with_routine outline.getchar getchar_type (nothing_yet outline))
      (sees_routine layout f outline.getchar getchar_type (nothing_yet outline)
      (record { here = λ name b e. absurd (none-some b e); outside = λ name b e. absurd (none-some b e); typed = λ name e. absurd (none-some _ e); typed_outside = λ name e. absurd (none-some _ e) }))

  -- behind the definition of a function
  sees_function : (d : Definition) (a : Around) → SeesAll a → SeesAll (left (ended_by d a))
  sees_function d a s =
      let begun = with_routine d.name (routine d.specifiers d.params) a in
      let within = within_function d.specifiers d.name d.params a in
      let inside = inside_ended d a in
      let ended = ended_by d a in
      let g = grows_then begun within (left ended) (grows_same begun within refl refl refl) (grows_then within ended (left ended) inside.grows (grows_same ended (left ended) refl refl refl)) in
      sees_same layout f begun (left ended) g (defined_outer d a) (ap innermost inside.outer_is ∙ innermost-push begun.outer begun.scope) (sees_routine layout f d.name (routine d.specifiers d.params) a s)

  abbrev Given_at : Around → List typed.External → Type 0
  Given_at a rest = HaveGivens program (statics a.variables) (givens rest)

  sees_external : (x : External ℕ) (a : Around) (rest : List typed.External) → in_block a ≡ false → Grows (after_external x a) all → SeesAll a → Given_at a (typed_external x a ∷ rest) → SeesAll (after_external x a) × Given_at (after_external x a) rest
  sees_external (Restriction pragma) a rest file g s h = (s, h)
  sees_external (Declaring (Objects specifiers objects at)) a rest file g s h = sees_row specifiers objects a [] (givens rest) file g h s
  sees_external (Declaring (Prototype specifiers name params at)) a rest file g s h = (sees_routine layout f name (routine specifiers params) a s, h)
  sees_external (Function specifiers name name_at params body body_at at) a rest file g s h =
      let d : Definition = record { specifiers = specifiers; name = name; name_at = name_at; params = params; body = body; body_at = body_at; at = at } in
      (sees_function d a s, subst (λ n. HaveGivens program n (givens rest)) (sym (inside_ended d a).statics_are) h)

  pub sees_front : (outline : Outline) (items : Row (External ℕ)) (rest : List typed.External) → Grows (behind outline items) all → HaveGivens program 0 (givens (typed_row after_external and_external items (started outline) rest)) → SeesAll (behind outline items) × Given_at (behind outline items) rest
  sees_front outline Nothing rest g h = (sees_started outline, h)
  sees_front outline (Then front last) rest g h =
      let now = behind outline front in
      let before = grows_then now (after_external last now) all (external_grows last now) g in
      let ih = sees_front outline front (typed_external last now ∷ rest) before h in
      sees_external last now rest (file_level outline front) g ih.0 ih.1
