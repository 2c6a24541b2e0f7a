-- What names are where no rule fails.
use Rattle.std.proofs.Common.{◌≡◌, inl, inr, ⊎_elim, refl, ap, ◌∙◌, sym, ℕ, zero, suc, Bool, true, false, List, [], ◌∷◌, ◌++◌, drop, Option, Some, None}
use Rattle.std.specs.Prelude.{◌&&◌, ◌||◌, not, slice_get}
use Rattle.std.proofs.lemmas.Bool.{and_parts, false≢true, true≢false}
use Rattle.std.proofs.lemmas.Option.{none-some, same_Some}
use Rattle.types_calls.specs.Chains.{Among}
use Rattle.types_rules.specs.ExpressionRules.{is_element_place, is_scalar_place, names_array, names_no_array}
use Rattle.types_rules.specs.Scope.{Around, found}
use Rattle.types_rules.specs.Types.{element_kind, is_array_for, is_callable, is_unknown, name_kind}
use Rattle.types_rules.specs.Typing.{object_number, typed_name}
use Rattle.types_rules.specs.declared.scope.Binding.{Binding}
use Rattle.types_rules.specs.declared.scope.Binding.TheVariants.{Object as Thing, Function as Routine}
use Rattle.types_rules.specs.declared.scope.ParamType.{ParamType}
use Rattle.types_value.specs.Kinds.{same_kind}
use Rattle.plan_definition.specs.Operators.{kind_of}
use Rattle.plan_definition.specs.Values.{array_named}
use Rattle.plan_runs.specs.ExpressionFits.{Function, IsArgument, IsArrayHome, IsScalar}
use Rattle.plan_runs.specs.Meets.{Layout, home, kind_at}
use Rattle.types_seen.specs.Seen.{HasType}
use Rattle.types_seen.proofs.Scopes as scopes
use Rattle.plan_served.specs.Seen.{Callable, IsObjectSeen, IsSeen, Sees}
use Rattle.types_seen.proofs.KindNumbers.{same_types}

pub among-first : (g : ℕ) (xs ys : List ℕ) → Among g xs → Among g (xs ++ ys)
among-first g [] ys h = absurd h
among-first g (x ∷ xs) ys h = ⊎_elim (λ (e : g ≡ x). inl e) (λ (m : Among g xs). inr (among-first g xs ys m)) h

pub among-second : (g : ℕ) (xs ys : List ℕ) → Among g ys → Among g (xs ++ ys)
among-second g [] ys h = h
among-second g (x ∷ xs) ys h = inr (among-second g xs ys h)

pub calls_first : (f : Function) (xs ys : List ℕ) → Callable f (xs ++ ys) → Callable f xs
calls_first f xs ys c = λ g m. c g (among-first g xs ys m)

pub calls_second : (f : Function) (xs ys : List ℕ) → Callable f (xs ++ ys) → Callable f ys
calls_second f xs ys c = λ g m. c g (among-second g xs ys m)

module _ (layout : Layout) (f : Function) where
  -- what a name stands for is seen
  pub seen_by : (a : Around) → Sees layout f a → (name : ℕ) (binding : Binding) → found name a ≡ Some binding → IsSeen layout f binding
  seen_by a sees name binding e = scopes.seen_by (IsSeen layout f) a sees name binding e

  -- what a name that is used as a value stands for
  pub record IsScalarHere (binding : Option Binding) : Type 0 where
    pub scalar : IsScalar layout f (object_number binding) (home layout (object_number binding))
    pub kind_is : kind_at layout (object_number binding) ≡ kind_of (name_kind binding)
    pub stores : is_scalar_place binding ≡ true → layout.constant (object_number binding) ≡ false

  pub scalar_here : (binding : Option Binding) → ((b : Binding) → binding ≡ Some b → IsSeen layout f b) → is_unknown binding ≡ false → names_array binding ≡ false → is_callable binding ≡ false → IsScalarHere binding
  scalar_here None seen known no_array no_function = absurd (true≢false known)
  scalar_here (Some Routine) seen known no_array no_function = absurd (true≢false no_function)
  scalar_here (Some (Thing number kind const true)) seen known no_array no_function = absurd (true≢false no_array)
  scalar_here (Some (Thing number kind const false)) seen known no_array no_function =
      let s : IsObjectSeen layout f number.0 kind const false = seen (Thing number kind const false) refl in
      record { scalar = s.lives; kind_is = s.kind_is; stores = λ e. s.stores (not-true const e) }
    where
      not-true : (b : Bool) → (not false && not b) ≡ true → b ≡ false
      not-true true e = absurd (false≢true e)
      not-true false e = refl

  -- what a name before an index stands for
  pub record IsArrayHere (binding : Option Binding) : Type 0 where
    pub array : IsArrayHome layout f (object_number binding) (home layout (object_number binding))
    pub kind_is : kind_at layout (object_number binding) ≡ kind_of (element_kind binding)
    pub stores : is_element_place binding ≡ true → layout.constant (object_number binding) ≡ false

  pub array_here : (binding : Option Binding) → ((b : Binding) → binding ≡ Some b → IsSeen layout f b) → is_unknown binding ≡ false → names_no_array binding ≡ false → IsArrayHere binding
  array_here None seen known is_array = absurd (true≢false known)
  array_here (Some Routine) seen known is_array = absurd (true≢false is_array)
  array_here (Some (Thing number kind const false)) seen known is_array = absurd (true≢false is_array)
  array_here (Some (Thing number kind const true)) seen known is_array =
      let s : IsObjectSeen layout f number.0 kind const true = seen (Thing number kind const true) refl in
      record { array = s.lives; kind_is = s.kind_is; stores = λ e. s.stores (not-true const e) }
    where
      not-true : (b : Bool) → not b ≡ true → b ≡ false
      not-true true e = absurd (false≢true e)
      not-true false e = refl

  -- a function's name has a type
  pub type_by : (a : Around) → Sees layout f a → (name : ℕ) → found name a ≡ Some Routine → HasType name a
  type_by a sees name e = scopes.type_by (IsSeen layout f) a sees name e

  -- a name that stands for an array parameter
  pub array_argument : (p : ParamType) (at : ℕ) (binding : Option Binding) → ((b : Binding) → binding ≡ Some b → IsSeen layout f b) → is_unknown binding ≡ false → is_array_for p binding ≡ true → IsArgument layout f (array_named (typed_name true binding at)) (kind_of p.kind) p.is_const
  array_argument p at None seen known fits = absurd (true≢false known)
  array_argument p at (Some Routine) seen known fits = absurd (false≢true fits)
  array_argument p at (Some (Thing number kind const false)) seen known fits = absurd (false≢true fits)
  array_argument p at (Some (Thing number kind const true)) seen known fits =
      let s : IsObjectSeen layout f number.0 kind const true = seen (Thing number kind const true) refl in
      let parts = and_parts (same_kind kind p.kind) (not const || p.is_const) fits in
      (s.lives, s.kind_is ∙ ap kind_of (same_types kind p.kind parts.0), λ e. s.stores (no_const const p.is_const parts.1 e))
    where
      no_const : (c d : Bool) → (not c || d) ≡ true → d ≡ false → c ≡ false
      no_const false d h e = refl
      no_const true d h e = absurd (false≢true (sym e ∙ h))

-- an element of a list, and those behind it
pub drop_at_item : {A : Type 0} (xs : List A) (n : ℕ) (x : A) → slice_get xs n ≡ Some x → drop n xs ≡ x ∷ drop (suc n) xs
drop_at_item [] n x e = absurd (none-some x e)
drop_at_item (y ∷ xs) zero x e = ap (λ z. z ∷ xs) (same_Some y x e)
drop_at_item (y ∷ xs) (suc n) x e = drop_at_item xs n x e
