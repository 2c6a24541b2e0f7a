-- Functions take arrays as their types say, and hold them in their first objects.
use Rattle.std.proofs.Common.{◌≡◌, refl, ap, ◌∙◌, sym, subst, ℕ, Bool, true, false, if◌then◌else◌, List, [], ◌∷◌, length, Some, None, length-append}
use Rattle.std.specs.Prelude.{slice_get}
use Rattle.std.proofs.lemmas.Bool.{false≢true}
use Rattle.c_tree.specs.Tree.{Row, Nothing, Then, Param, Parameter, Shape, Scalar, Unsized, Sized, External}
use Rattle.types_tree.specs.Tree as typed
use Rattle.types_tree.specs.declared.variable.Variable.{Variable}
use Rattle.types_rules.specs.DeclarationRules.{after_list, after_param, after_params, has_brackets, is_no_list, param_extent, param_type, param_types, types_of, within_function}
use Rattle.types_rules.specs.Scope.{Around, Outline, after_row, duration_in, in_block, index_of, started, unseen, with_object}
use Rattle.types_rules.specs.Sights.{definitions, externals_nodes, param_nodes, params_nodes}
use Rattle.types_rules.specs.Specifiers.{is_const, kind_spelled}
use Rattle.types_rules.specs.Typing.{and_param, typed_param, typed_params, typed_row, typed_shape}
use Rattle.types_rules.specs.declared.scope.ParamType.{ParamType}
use Rattle.types_seen.specs.Fronts.{Definition, IsFront, behind, external_by, function_by, functions_of}
use Rattle.types_seen.specs.Growing.{Grows}
use Rattle.types_seen.specs.Seen.{Knows}
use Rattle.types_seen.proofs.Rules.{NoFault, faultless_first, faultless_second}
use Rattle.types_seen.proofs.Growing.{grows_object, grows_then, slice_get-last}
use Rattle.types_seen.proofs.Fronts.{part_faultless}
use Rattle.types_seen.proofs.Known.{head_faultless, known_by, no_nameless}
use Rattle.meaning_laws.specs.Scoped.{ArePassed, IsPassed, IsPassedAs, arrays_of, is_array_shape, takes}
use Rattle.meaning_laws.proofs.Expressions.{IsKnown, IsKnownAs, arrays_in}

shape_same : (shape : Shape ℕ) (a : Around) → has_brackets shape ≡ is_array_shape (typed_shape shape a)
shape_same Scalar a = refl
shape_same Unsized a = refl
shape_same (Sized size) a = refl

row_arrays : (ps : Row (Param ℕ)) (w a : Around) (rest : List typed.Param) (types : List ParamType) → NoFault (params_nodes ps a) → arrays_in types ≡ arrays_of rest → arrays_in (param_types ps types) ≡ arrays_of (typed_row unseen and_param ps w rest)
row_arrays Nothing w a rest types h e = e
row_arrays (Then front (Parameter specifiers None shape at)) w a rest types h e =
    absurd (no_nameless specifiers shape at (after_row after_param front a) (faultless_second (params_nodes front a) (param_nodes (Parameter specifiers None shape at) (after_row after_param front a)) h))
row_arrays (Then front (Parameter specifiers (Some name) shape at)) w a rest types h e =
    let last = Parameter specifiers (Some name) shape at in
    let now = after_row unseen front w in
    row_arrays front w a (typed_param now last ∷ rest) (param_type last ∷ types) (faultless_first (params_nodes front a) (param_nodes last (after_row after_param front a)) h)
    (ap (λ b. b ∷ arrays_in types) (shape_same shape now) ∙ ap (λ l. is_array_shape (typed_shape shape now) ∷ l) e)

none_listed : (ps : Row (Param ℕ)) (w : Around) → is_no_list ps ≡ true → arrays_of (typed_row unseen and_param ps w []) ≡ []
none_listed Nothing w e = refl
none_listed (Then Nothing (Parameter specifiers None Scalar at)) w e = refl
none_listed (Then Nothing (Parameter specifiers None Unsized at)) w e = absurd (false≢true e)
none_listed (Then Nothing (Parameter specifiers None (Sized size) at)) w e = absurd (false≢true e)
none_listed (Then Nothing (Parameter specifiers (Some name) shape at)) w e = absurd (false≢true e)
none_listed (Then (Then front before) last) w e = absurd (false≢true e)

pub types_arrays : (ps : Row (Param ℕ)) (w : Around) → NoFault (if is_no_list ps then [] else params_nodes ps w) → arrays_of (typed_params ps w) ≡ arrays_in (types_of ps)
types_arrays ps w h = of (is_no_list ps) refl h
  where
    of : (b : Bool) → is_no_list ps ≡ b → NoFault (if b then [] else params_nodes ps w) → arrays_of (typed_row unseen and_param ps w []) ≡ arrays_in (if b then [] else param_types ps [])
    of true e h = none_listed ps w e
    of false e h = sym (row_arrays ps w w [] [] h refl)

-- the objects of parameters, before others
module _ (last : Around) where
  passed_as : (shape : Shape ℕ) → IsPassedAs (has_brackets shape) (param_extent shape)
  passed_as Scalar = refl
  passed_as Unsized = refl
  passed_as (Sized size) = refl

  row_passed : (ps : Row (Param ℕ)) (a : Around) (types : List ParamType) → NoFault (params_nodes ps a) → Grows (after_row after_param ps a) last → ArePassed last.variables (length (after_row after_param ps a).variables) (arrays_in types) →
      ArePassed last.variables (length a.variables) (arrays_in (param_types ps types))
  row_passed Nothing a types h g p = p
  row_passed (Then front (Parameter specifiers None shape at)) a types h g p =
      absurd (no_nameless specifiers shape at (after_row after_param front a) (faultless_second (params_nodes front a) (param_nodes (Parameter specifiers None shape at) (after_row after_param front a)) h))
  row_passed (Then front (Parameter specifiers (Some name) shape at)) a types h g p =
      let one = Parameter specifiers (Some name) shape at in
      let now = after_row after_param front a in
      let after = with_object name (kind_spelled specifiers) (is_const specifiers) (param_extent shape) now in
      let v : Variable = record { name = record { 0 = name }; kind = kind_spelled specifiers; extent = param_extent shape; duration = duration_in (in_block now) } in
      let there = g.variables_are (length now.variables) v (slice_get-last now.variables v) in
      row_passed front a (param_type one ∷ types) (faultless_first (params_nodes front a) (param_nodes one now) h)
      (grows_then now after last (grows_object name (kind_spelled specifiers) (is_const specifiers) (param_extent shape) now) g) (
        subst (IsPassed (has_brackets shape)) (sym there) (passed_as shape),
        subst (λ n. ArePassed last.variables n (arrays_in types)) (length-append now.variables (v ∷ [])) p,
      )

  pub list_passed : (ps : Row (Param ℕ)) (a : Around) → NoFault (if is_no_list ps then [] else params_nodes ps a) → Grows (after_list ps a) last → ArePassed last.variables (length a.variables) (arrays_in (types_of ps))
  list_passed ps a h g = of (is_no_list ps) h g
    where
      of : (b : Bool) → NoFault (if b then [] else params_nodes ps a) → Grows (if b then a else after_params ps a) last → ArePassed last.variables (length a.variables) (arrays_in (if b then [] else param_types ps []))
      of true h g = tt
      of false h g = row_passed ps a [] h g tt

-- each function is known by the arrays of its definition
module _ (outline : Outline) (items : Row (External ℕ)) (faultless : NoFault (externals_nodes items (started outline))) (listed : outline.definitions ≡ definitions items) (functions : List typed.Function) (functions_are : functions ≡ functions_of items (started outline)) where
  pub arrays_by : (front : Row (External ℕ)) (d : Definition) → IsFront (Then front (external_by d)) items → takes (Some (function_by d (behind outline front))) ≡ arrays_in (types_of d.params)
  arrays_by front d part =
      let now = behind outline front in
      types_arrays d.params (within_function d.specifiers d.name d.params now) (head_faultless d now (part_faultless outline items front (external_by d) part faultless))

  pub knows : Knows (IsKnown functions) (behind outline items)
  knows =
      known_by outline items faultless listed (λ name. IsKnownAs functions) (λ name. tt) (λ name. tt)
      (λ name r x. ap (λ l. takes (slice_get l (index_of name outline.definitions))) functions_are ∙ ap takes x.there ∙ arrays_by x.front x.definition x.part ∙ ap (λ y. arrays_in y.params) x.type_is)
