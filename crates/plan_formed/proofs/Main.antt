-- A unit that passes has a function `main`.
use Rattle.std.proofs.Common.{◌≡◌, ℕ, suc, ◌+◌, ◌<◌, Bool, true, false, List, [], ◌∷◌, length, map, refl, ap, ◌∙◌, subst, arith}
use Rattle.std.specs.Prelude.{◌&&◌, ◌||◌, if◌then◌else◌, nat_eq}
use Rattle.std.specs.Cmp.Lexicographic.{pointwise}
use Rattle.std.proofs.lemmas.Bool.{and_parts, eqb-false, eqb-true, false≢true}
use Rattle.c_tree.specs.Tree.{Row, Nothing, Then, External, Restriction, Declaring, Function}
use Rattle.facts_definitions.specs.FlowFacts.{id_in, index_of}
use Rattle.types_tree.specs.Tree.{function_name}
use Rattle.types_tree.specs.Tree as typed
use Rattle.types_value.specs.Kinds.{same_kind}
use Rattle.types_value.specs.declared.kind.Kind.TheVariants.{Int}
use Rattle.types_rules.specs.DeclarationRules.{is_no_list}
use Rattle.types_rules.specs.Scope.{Around, after_row}
use Rattle.types_rules.specs.Sights.{after_external, has_main, number_of}
use Rattle.types_rules.specs.Specifiers.{kind_spelled}
use Rattle.types_rules.specs.Typing.{typed_function, typed_row}

pub number_is : (name : List ℕ) (names : List (List ℕ)) → number_of name names ≡ id_in names name
number_is name [] = refl
number_is name (n ∷ names) = ap (λ m. if pointwise nat_eq n name then 0 else m + 1) (number_is name names)

-- whether one of these functions has a name
abbrev named : ℕ → List typed.Function → Bool
named name [] = false
named name (f ∷ rest) = nat_eq name (function_name f) || named name rest

or_true : (b : Bool) → (b || true) ≡ true
or_true true = refl
or_true false = refl

named_rest : (name : ℕ) (items : Row (External ℕ)) (a : Around) (rest : List typed.Function) → named name rest ≡ true → named name (typed_row after_external typed_function items a rest) ≡ true
named_rest name Nothing a rest h = h
named_rest name (Then front (Restriction pragma)) a rest h = named_rest name front a rest h
named_rest name (Then front (Declaring declaration)) a rest h = named_rest name front a rest h
named_rest name (Then front (Function specifiers own name_at params body body_at at)) a rest h =
    named_rest name front a (typed_function (Function specifiers own name_at params body body_at at) (after_row after_external front a) rest) (ap (λ b. nat_eq name own || b) h ∙ or_true (nat_eq name own))

same_itself : (n : ℕ) → nat_eq n n ≡ true
same_itself n = of (nat_eq n n) refl
  where
    of : (b : Bool) → nat_eq n n ≡ b → nat_eq n n ≡ true
    of true e = e
    of false e = absurd (eqb-false n n e refl)

left_only : (b : Bool) → (b || false) ≡ true → b ≡ true
left_only true h = refl
left_only false h = h

named_main : (main : ℕ) (items : Row (External ℕ)) (a : Around) (rest : List typed.Function) → has_main main items ≡ true → named main (typed_row after_external typed_function items a rest) ≡ true
named_main main Nothing a rest h = absurd (false≢true h)
named_main main (Then front (Restriction pragma)) a rest h = named_main main front a rest (left_only (has_main main front) h)
named_main main (Then front (Declaring declaration)) a rest h = named_main main front a rest (left_only (has_main main front) h)
named_main main (Then front (Function specifiers name name_at params body body_at at)) a rest h = of (has_main main front) refl (λ e. named_main main front a (typed_function (Function specifiers name name_at params body body_at at) (after_row after_external front a) rest) e) h
  where
    of : (b : Bool) → has_main main front ≡ b → (has_main main front ≡ true → named main (typed_row after_external typed_function front a (typed_function (Function specifiers name name_at params body body_at at) (after_row after_external front a) rest)) ≡ true) → (b || (nat_eq name main && same_kind (kind_spelled specifiers) Int && is_no_list params)) ≡ true → named main (typed_row after_external typed_function front a (typed_function (Function specifiers name name_at params body body_at at) (after_row after_external front a) rest)) ≡ true
    of true e before k = before e
    of false e before k =
        let same = eqb-true name main (and_parts (nat_eq name main) (same_kind (kind_spelled specifiers) Int) (and_parts (nat_eq name main && same_kind (kind_spelled specifiers) Int) (is_no_list params) k).0).0 in
        named_rest main front a (typed_function (Function specifiers name name_at params body body_at at) (after_row after_external front a) rest)
        (subst (λ n. (nat_eq n name || named n rest) ≡ true) same (ap (λ b. b || named name rest) (same_itself name)))

index_below : (name : ℕ) (fs : List typed.Function) → named name fs ≡ true → index_of name (map function_name fs) < length fs
index_below name [] h = absurd (false≢true h)
index_below name (f ∷ rest) h = of (nat_eq name (function_name f)) (λ e. index_below name rest e) h
  where
    of : (b : Bool) → (named name rest ≡ true → index_of name (map function_name rest) < length rest) → (b || named name rest) ≡ true → (if b then 0 else index_of name (map function_name rest) + 1) < suc (length rest)
    of true behind e = omega arith
    of false behind e = omega (arith, behind e)

-- the number of `main` is that of a function
pub main_below : (main : ℕ) (items : Row (External ℕ)) (a : Around) → has_main main items ≡ true → index_of main (map function_name (typed_row after_external typed_function items a [])) < length (typed_row after_external typed_function items a [])
main_below main items a h = index_below main (typed_row after_external typed_function items a []) (named_main main items a [] h)
