-- The parameters of a function.
use Rattle.std.proofs.Common.{◌≡◌, refl, ap, ◌∙◌, sym, subst, ℕ, ◌+◌, suc, Bool, true, false, cond, List, [], ◌∷◌, ◌++◌, length, Some, None, arith, add-zero, append-nil, append_assoc}
use Rattle.std.specs.Prelude.{if◌then◌else◌, slice_get}
use Rattle.std.proofs.lemmas.List.Sums.{sum_by-cons}
use Rattle.c_tree.specs.Tree.{Row, Nothing, Then, Param, Parameter, Shape, Scalar as Single, Unsized, Sized}
use Rattle.c_tree.specs.declared.expression.Specifier.{Specifier}
use Rattle.types_tree.specs.Tree as typed
use Rattle.types_tree.specs.declared.variable.Duration.TheVariants.{Automatic}
use Rattle.types_tree.specs.declared.variable.Extent.TheVariants.{Scalar, Parameter as Passed}
use Rattle.types_tree.specs.declared.variable.Variable.{Variable}
use Rattle.types_rules.specs.DeclarationRules.{after_list, after_param, after_params, is_no_list, param_extent}
use Rattle.types_rules.specs.Scope.{Around, after_row, duration_in, in_block, unseen}
use Rattle.types_rules.specs.Specifiers.{kind_spelled}
use Rattle.types_rules.specs.Typing.{and_param, typed_param, typed_params, typed_row, typed_shape}
use Rattle.high_ir.specs.declared.object.Kind.{Kind}
use Rattle.high_ir.specs.declared.object.Base.TheVariants.{Parameter as Handed}
use Rattle.plan_definition.specs.declared.home.Home.{Home}
use Rattle.plan_definition.specs.Layouts.{Next, frame_scalars, home_by, is_frame, is_passed, next_by, passed_arrays}
use Rattle.plan_definition.specs.Operators.{kind_of}
use Rattle.plan_definition.specs.Programs.{named_params}
use Rattle.plan_runs.specs.ExpressionFits.{Formal, OfWord, OfArray}
use Rattle.plan_runs.specs.Meets.{Layout, home, kind_at}
use Rattle.plan_runs.specs.Serves.{AreParameters, arrays_in, words_in}
use Rattle.types_seen.proofs.Growing.{in_same, inside_param, row_inside}
use Rattle.plan_served.specs.Layouts.{formal_of, formals_of}
use Rattle.plan_served.proofs.Homes.{plain_homes}
use Rattle.plan_served.proofs.Known.{none_listed}

-- the objects of parameters, one behind the other
abbrev pub Match : List Formal → List Variable → Type 0
Match [] [] = Unit {0}
Match [] (v ∷ vs) = ⊥
Match (f ∷ fs) [] = ⊥
Match (OfWord kind ∷ fs) (v ∷ vs) = (v.duration ≡ Automatic) × (v.extent ≡ Scalar) × (kind_of v.kind ≡ kind) × Match fs vs
Match (OfArray kind constant ∷ fs) (v ∷ vs) = (v.duration ≡ Automatic) × (v.extent ≡ Passed) × (kind_of v.kind ≡ kind) × Match fs vs

match-append : (fs gs : List Formal) (vs ws : List Variable) → Match fs vs → Match gs ws → Match (fs ++ gs) (vs ++ ws)
match-append [] gs [] ws h k = k
match-append [] gs (v ∷ vs) ws h k = absurd h
match-append (OfWord kind ∷ fs) gs [] ws h k = absurd h
match-append (OfArray kind constant ∷ fs) gs [] ws h k = absurd h
match-append (OfWord kind ∷ fs) gs (v ∷ vs) ws h k = (h.0, h.1, h.2, match-append fs gs vs ws h.3 k)
match-append (OfArray kind constant ∷ fs) gs (v ∷ vs) ws h k = (h.0, h.1, h.2, match-append fs gs vs ws h.3 k)

pub match_length : (fs : List Formal) (vs : List Variable) → Match fs vs → length fs ≡ length vs
match_length [] [] h = refl
match_length [] (v ∷ vs) h = absurd h
match_length (OfWord kind ∷ fs) [] h = absurd h
match_length (OfArray kind constant ∷ fs) [] h = absurd h
match_length (OfWord kind ∷ fs) (v ∷ vs) h = ap suc (match_length fs vs h.3)
match_length (OfArray kind constant ∷ fs) (v ∷ vs) h = ap suc (match_length fs vs h.3)

formals_of-append : (xs ys : List typed.Param) → formals_of (xs ++ ys) ≡ formals_of xs ++ formals_of ys
formals_of-append [] ys = refl
formals_of-append (typed.Parameter specifiers None shape at ∷ xs) ys = formals_of-append xs ys
formals_of-append (typed.Parameter specifiers (Some name) shape at ∷ xs) ys = ap (λ l. formal_of specifiers shape ∷ l) (formals_of-append xs ys)

params-append : (ps : Row (Param ℕ)) (w : Around) (rest : List typed.Param) → typed_row unseen and_param ps w rest ≡ typed_row unseen and_param ps w [] ++ rest
params-append Nothing w rest = refl
params-append (Then front last) w rest =
    let made = typed_param (after_row unseen front w) last in
    params-append front w (made ∷ rest) ∙ sym (append_assoc (typed_row unseen and_param front w []) (made ∷ []) rest) ∙ ap (λ l. l ++ rest) (sym (params-append front w (made ∷ [])))

-- the objects that parameters add
record AddParams (ps : Row (Param ℕ)) (w a : Around) : Type 0 where
  added : List Variable
  variables_are : (after_row after_param ps a).variables ≡ a.variables ++ added
  match : Match (formals_of (typed_row unseen and_param ps w [])) added

one_match : (specifiers : List Specifier) (name : ℕ) (shape : Shape ℕ) (w a : Around) → in_block a ≡ true →
    Match (formal_of specifiers (typed_shape shape w) ∷ []) (record { name = record { 0 = name }; kind = kind_spelled specifiers; extent = param_extent shape; duration = duration_in (in_block a) } ∷ [])
one_match specifiers name Single w a block = (ap duration_in block, refl, refl, tt)
one_match specifiers name Unsized w a block = (ap duration_in block, refl, refl, tt)
one_match specifiers name (Sized size) w a block = (ap duration_in block, refl, refl, tt)

params_block : (ps : Row (Param ℕ)) (a : Around) → in_block a ≡ true → in_block (after_row after_param ps a) ≡ true
params_block ps a block = in_same a (after_row after_param ps a) (row_inside after_param inside_param ps a block).outer_is block

add_params : (ps : Row (Param ℕ)) (w a : Around) → in_block a ≡ true → AddParams ps w a
add_params Nothing w a block = record { added = []; variables_are = sym (append-nil a.variables); match = tt }
add_params (Then front (Parameter specifiers None shape at)) w a block =
    let h = add_params front w a block in
    let made = typed_param (after_row unseen front w) (Parameter specifiers None shape at) in
    record {
      added = h.added;
      variables_are = h.variables_are;
      match = subst (λ l. Match l h.added) (sym (ap formals_of (params-append front w (made ∷ [])) ∙ formals_of-append (typed_row unseen and_param front w []) (made ∷ []) ∙ append-nil (formals_of (typed_row unseen and_param front w [])))) h.match;
    }
add_params (Then front (Parameter specifiers (Some name) shape at)) w a block =
    let h = add_params front w a block in
    let seen = after_row unseen front w in
    let now = after_row after_param front a in
    let made = typed_param seen (Parameter specifiers (Some name) shape at) in
    let v : Variable = record { name = record { 0 = name }; kind = kind_spelled specifiers; extent = param_extent shape; duration = duration_in (in_block now) } in
    record {
      added = h.added ++ v ∷ [];
      variables_are = ap (λ l. l ++ v ∷ []) h.variables_are ∙ append_assoc a.variables h.added (v ∷ []);
      match = subst (λ l. Match l (h.added ++ v ∷ [])) (sym (ap formals_of (params-append front w (made ∷ [])) ∙ formals_of-append (typed_row unseen and_param front w []) (made ∷ [])))
          (match-append (formals_of (typed_row unseen and_param front w [])) (formal_of specifiers (typed_shape shape seen) ∷ []) h.added (v ∷ []) h.match (one_match specifiers name shape seen now (params_block front a block)));
    }

-- the same of the list of a definition
pub record AddList (ps : Row (Param ℕ)) (a : Around) : Type 0 where
  pub added : List Variable
  pub variables_are : (after_list ps a).variables ≡ a.variables ++ added
  pub match : Match (formals_of (typed_params ps a)) added

pub add_list : (ps : Row (Param ℕ)) (a : Around) → in_block a ≡ true → AddList ps a
add_list ps a block = of (is_no_list ps) refl
  where
    of : (b : Bool) → is_no_list ps ≡ b → AddList ps a
    of true e = record {
      added = [];
      variables_are = ap (λ b. (if b then a else after_params ps a).variables) e ∙ sym (append-nil a.variables);
      match = subst (λ l. Match l []) (sym (none_listed ps a e)) tt;
    }
    of false e =
        let h = add_params ps a a block in
        record { added = h.added; variables_are = ap (λ b. (if b then a else after_params ps a).variables) e ∙ h.variables_are; match = h.match }

pub named_count : (ps : List typed.Param) → named_params ps ≡ length (formals_of ps)
named_count [] = refl
named_count (typed.Parameter specifiers None shape at ∷ rest) = named_count rest
named_count (typed.Parameter specifiers (Some name) shape at ∷ rest) = let h = named_count rest in omega (arith, h)

-- how many parameters are words, and arrays
pub words_counted : (fs : List Formal) (vs : List Variable) → Match fs vs → words_in fs ≡ frame_scalars vs
words_counted [] [] h = refl
words_counted [] (v ∷ vs) h = absurd h
words_counted (OfWord kind ∷ fs) [] h = absurd h
words_counted (OfArray kind constant ∷ fs) [] h = absurd h
words_counted (OfWord kind ∷ fs) (v ∷ vs) h =
    let c = words_counted fs vs h.3 in
    more (words_in fs) (frame_scalars vs) c ∙ sym (sum_by-cons (λ w. cond (is_frame w.duration w.extent) 1 0) v vs ∙ ap (λ d. cond (is_frame d v.extent) 1 0 + frame_scalars vs) h.0 ∙ ap (λ e. cond (is_frame Automatic e) 1 0 + frame_scalars vs) h.1)
  where
    more : (a b : ℕ) → a ≡ b → a + 1 ≡ 1 + b
    more a b e = omega (arith, e)
words_counted (OfArray kind constant ∷ fs) (v ∷ vs) h =
    let c = words_counted fs vs h.3 in
    more (words_in fs) (frame_scalars vs) c ∙ sym (sum_by-cons (λ w. cond (is_frame w.duration w.extent) 1 0) v vs ∙ ap (λ d. cond (is_frame d v.extent) 1 0 + frame_scalars vs) h.0 ∙ ap (λ e. cond (is_frame Automatic e) 1 0 + frame_scalars vs) h.1)
  where
    more : (a b : ℕ) → a ≡ b → a ≡ 0 + b
    more a b e = omega (arith, e)

pub arrays_counted : (fs : List Formal) (vs : List Variable) → Match fs vs → arrays_in fs ≡ passed_arrays vs
arrays_counted [] [] h = refl
arrays_counted [] (v ∷ vs) h = absurd h
arrays_counted (OfWord kind ∷ fs) [] h = absurd h
arrays_counted (OfArray kind constant ∷ fs) [] h = absurd h
arrays_counted (OfWord kind ∷ fs) (v ∷ vs) h =
    let c = arrays_counted fs vs h.3 in
    more (arrays_in fs) (passed_arrays vs) c ∙ sym (sum_by-cons (λ w. cond (is_passed w.extent) 1 0) v vs ∙ ap (λ e. cond (is_passed e) 1 0 + passed_arrays vs) h.1)
  where
    more : (a b : ℕ) → a ≡ b → a ≡ 0 + b
    more a b e = omega (arith, e)
arrays_counted (OfArray kind constant ∷ fs) (v ∷ vs) h =
    let c = arrays_counted fs vs h.3 in
    more (arrays_in fs) (passed_arrays vs) c ∙ sym (sum_by-cons (λ w. cond (is_passed w.extent) 1 0) v vs ∙ ap (λ e. cond (is_passed e) 1 0 + passed_arrays vs) h.1)
  where
    more : (a b : ℕ) → a ≡ b → a + 1 ≡ 1 + b
    more a b e = omega (arith, e)

-- where parameters live, in the order of the frame's variables and of the arrays that are passed
module _ (layout : Layout) where
  pub parameters_stand : (fs : List Formal) (vs after : List Variable) (next : Next) (object : ℕ) → Match fs vs →
      ((i : ℕ) (h : Home) → slice_get (plain_homes (vs ++ after) next) i ≡ Some h → home layout (object + i) ≡ h) →
      ((i : ℕ) (v : Variable) → slice_get vs i ≡ Some v → kind_at layout (object + i) ≡ kind_of v.kind) →
      ((i : ℕ) (kind : Kind) (constant : Bool) → slice_get fs i ≡ Some (OfArray kind constant) → layout.constant (object + i) ≡ constant) →
      AreParameters layout object next.variable next.parameter fs
  parameters_stand [] vs after next object m homes kinds constants = tt
  parameters_stand (OfWord kind ∷ fs) [] after next object m homes kinds constants = absurd m
  parameters_stand (OfArray kind constant ∷ fs) [] after next object m homes kinds constants = absurd m
  parameters_stand (OfWord kind ∷ fs) (v ∷ vs) after next object m homes kinds constants =
      let here = homes 0 (home_by v.duration v.extent v next) refl in (
        ap (home layout) (sym (add-zero object)) ∙ here ∙ ap (λ d. home_by d v.extent v next) m.0 ∙ ap (λ e. home_by Automatic e v next) m.1,
        ap (kind_at layout) (sym (add-zero object)) ∙ kinds 0 v refl ∙ m.2,
        subst (λ n. AreParameters layout (object + 1) n.variable n.parameter fs) (ap (λ d. next_by d v.extent next) m.0 ∙ ap (λ e. next_by Automatic e next) m.1)
            (parameters_stand fs vs after (next_by v.duration v.extent next) (object + 1) m.3 (λ i h e. ap (home layout) (along object i) ∙ homes (suc i) h e) (λ i w e. ap (kind_at layout) (along object i) ∙ kinds (suc i) w e)
            (λ i k c e. ap layout.constant (along object i) ∙ constants (suc i) k c e)),
      )
    where
      along : (o i : ℕ) → o + 1 + i ≡ o + suc i
      along o i = omega arith
  parameters_stand (OfArray kind constant ∷ fs) (v ∷ vs) after next object m homes kinds constants =
      let here = homes 0 (home_by v.duration v.extent v next) refl in (
        record {
          array = record { kind = kind_of v.kind; base = Handed next.parameter };
          lives = ap (home layout) (sym (add-zero object)) ∙ here ∙ ap (λ d. home_by d v.extent v next) m.0 ∙ ap (λ e. home_by Automatic e v next) m.1;
          base_is = refl;
        },
        ap (kind_at layout) (sym (add-zero object)) ∙ kinds 0 v refl ∙ m.2,
        ap layout.constant (sym (add-zero object)) ∙ constants 0 kind constant refl,
        subst (λ n. AreParameters layout (object + 1) n.variable n.parameter fs) (ap (λ d. next_by d v.extent next) m.0 ∙ ap (λ e. next_by Automatic e next) m.1)
            (parameters_stand fs vs after (next_by v.duration v.extent next) (object + 1) m.3 (λ i h e. ap (home layout) (along object i) ∙ homes (suc i) h e) (λ i w e. ap (kind_at layout) (along object i) ∙ kinds (suc i) w e)
            (λ i k c e. ap layout.constant (along object i) ∙ constants (suc i) k c e)),
      )
    where
      along : (o i : ℕ) → o + 1 + i ≡ o + suc i
      along o i = omega arith
