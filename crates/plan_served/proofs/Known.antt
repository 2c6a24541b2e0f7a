-- Each function that is called is known with the parameters and the result of its definition.
use Rattle.std.proofs.Common.{◌≡◌, inl, inr, refl, ap, ◌∙◌, sym, ℕ, Bool, true, false, List, [], ◌∷◌, Some, None}
use Rattle.std.specs.Prelude.{if◌then◌else◌, slice_get}
use Rattle.std.proofs.lemmas.Bool.{false≢true}
use Rattle.c_tree.specs.Tree.{Row, Nothing, Then, Param, Parameter, Shape, Scalar, Unsized, Sized, External}
use Rattle.c_tree.specs.declared.expression.Specifier.{Specifier}
use Rattle.types_tree.specs.Tree as typed
use Rattle.types_tree.specs.declared.expression.Callee.TheVariants.{Function as Own}
use Rattle.types_rules.specs.DeclarationRules.{after_param, is_no_list, param_type, param_types, types_of, within_function}
use Rattle.types_rules.specs.Scope.{Around, Outline, after_row, index_of, started, unseen}
use Rattle.types_rules.specs.Sights.{definitions, externals_nodes, param_nodes, params_nodes}
use Rattle.types_rules.specs.Specifiers.{is_const, kind_spelled}
use Rattle.types_rules.specs.Typing.{and_param, typed_param, typed_params, typed_row, typed_shape}
use Rattle.types_rules.specs.declared.scope.ParamType.{ParamType}
use Rattle.types_rules.specs.declared.scope.Routine.{Routine}
use Rattle.plan_definition.specs.Operators.{kind_of}
use Rattle.plan_runs.specs.ExpressionFits.{OfWord, OfArray, Signatures}
use Rattle.plan_served.specs.Seen.{IsKnownAs, Knows, formal, formals}
use Rattle.types_seen.proofs.Rules.{NoFault, faultless_first, faultless_second}
use Rattle.types_seen.proofs.Known.{OfName, head_faultless, known_by, no_nameless}
use Rattle.plan_served.proofs.Widths.{or_int-kind}
use Rattle.types_seen.specs.Fronts.{behind, external_by, function_by, functions_of}
use Rattle.plan_served.specs.Layouts.{formal_of, formals_of, parameters_in, result_in, signatures_of}
use Rattle.types_seen.proofs.Fronts.{part_faultless}

-- parameters of a definition
formal_same : (specifiers : List Specifier) (name : ℕ) (shape : Shape ℕ) (at : ℕ) (a : Around) → formal (param_type (Parameter specifiers (Some name) shape at)) ≡ formal_of specifiers (typed_shape shape a)
formal_same specifiers name Scalar at a = ap OfWord (or_int-kind (kind_spelled specifiers))
formal_same specifiers name Unsized at a = ap (λ k. OfArray k (is_const specifiers)) (or_int-kind (kind_spelled specifiers))
formal_same specifiers name (Sized size) at a = ap (λ k. OfArray k (is_const specifiers)) (or_int-kind (kind_spelled specifiers))

row_formals : (ps : Row (Param ℕ)) (w a : Around) (rest : List typed.Param) (types : List ParamType) → NoFault (params_nodes ps a) → formals types ≡ formals_of rest → formals (param_types ps types) ≡ formals_of (typed_row unseen and_param ps w rest)
row_formals Nothing w a rest types h e = e
row_formals (Then front (Parameter specifiers None shape at)) w a rest types h e =
    absurd (no_nameless specifiers shape at (after_row after_param front a) (faultless_second (params_nodes front a) (param_nodes (Parameter specifiers None shape at) (after_row after_param front a)) h))
row_formals (Then front (Parameter specifiers (Some name) shape at)) w a rest types h e =
    let last = Parameter specifiers (Some name) shape at in
    let now = after_row unseen front w in
    row_formals front w a (typed_param now last ∷ rest) (param_type last ∷ types) (faultless_first (params_nodes front a) (param_nodes last (after_row after_param front a)) h)
    (ap (λ f. f ∷ formals types) (formal_same specifiers name shape at now) ∙ ap (λ l. formal_of specifiers (typed_shape shape now) ∷ l) e)

pub none_listed : (ps : Row (Param ℕ)) (w : Around) → is_no_list ps ≡ true → formals_of (typed_row unseen and_param ps w []) ≡ []
none_listed Nothing w e = refl
none_listed (Then Nothing (Parameter specifiers None Scalar at)) w e = refl
none_listed (Then Nothing (Parameter specifiers None Unsized at)) w e = absurd (false≢true e)
none_listed (Then Nothing (Parameter specifiers None (Sized size) at)) w e = absurd (false≢true e)
none_listed (Then Nothing (Parameter specifiers (Some name) shape at)) w e = absurd (false≢true e)
none_listed (Then (Then front before) last) w e = absurd (false≢true e)

pub types_formals : (ps : Row (Param ℕ)) (w : Around) → NoFault (if is_no_list ps then [] else params_nodes ps w) → formals_of (typed_params ps w) ≡ formals (types_of ps)
types_formals ps w h = of (is_no_list ps) refl h
  where
    of : (b : Bool) → is_no_list ps ≡ b → NoFault (if b then [] else params_nodes ps w) → formals_of (typed_row unseen and_param ps w []) ≡ formals (if b then [] else param_types ps [])
    of true e h = none_listed ps w e
    of false e h = sym (row_formals ps w w [] [] h refl)

-- each function is known by the parameters and the result of its definition
module _ (outline : Outline) (items : Row (External ℕ)) (faultless : NoFault (externals_nodes items (started outline))) (listed : outline.definitions ≡ definitions items) (program : typed.Program) (functions_are : program.functions ≡ functions_of items (started outline)) where
  abbrev signatures : Signatures
  signatures = signatures_of program

  known_own : (name : ℕ) (r : Routine) → OfName outline items name r → IsKnownAs signatures (Own (record { 0 = index_of name outline.definitions })) r
  known_own name r x =
      let i = index_of name outline.definitions in
      let d = x.definition in
      let now = behind outline x.front in
      let own = part_faultless outline items x.front (external_by d) x.part faultless in
      let found : slice_get program.functions i ≡ Some (function_by d now) = ap (λ l. slice_get l i) functions_are ∙ x.there in
      record {
        parameters_are = ap parameters_in found ∙ types_formals d.params (within_function d.specifiers d.name d.params now) (head_faultless d now own) ∙ ap (λ y. formals y.params) x.type_is;
        result_is = inr (sym (ap result_in found ∙ ap (λ y. kind_of y.result) x.type_is));
      }

  pub knows : Knows signatures (behind outline items)
  knows =
      known_by outline items faultless listed (λ name. IsKnownAs signatures)
      (λ name. record { parameters_are = refl; result_is = inl refl })
      (λ name. record { parameters_are = refl; result_is = inl refl })
      known_own
