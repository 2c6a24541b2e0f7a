-- Names in scopes.
use Rattle.std.proofs.Common.{◌≡◌, ◌⊎◌, inl, inr, ⊎_elim, refl, ap, ◌∙◌, sym, subst, ℕ, Bool, true, false, if◌then◌else◌, cond, List, [], ◌∷◌, ◌++◌, length, Option, Some, None, nat_eq}
use Rattle.std.specs.Map.{lookup}
use Rattle.std.proofs.lemmas.Bool.{eq-eqb, eqb-true, false≢true}
use Rattle.std.proofs.lemmas.Option.{none-some, same_Some}
use Rattle.types_rules.specs.Scope.{Around, Outline, Scope, bound, entered, found, found_here, found_outside, is_array, or_else, routine_of, with_object, with_routine, with_type}
use Rattle.types_rules.specs.Types.{has_definition}
use Rattle.types_rules.specs.declared.scope.Binding.{Binding}
use Rattle.types_rules.specs.declared.scope.Binding.TheVariants.{Object as Thing, Function as Routine}
use Rattle.types_rules.specs.declared.scope.Routine.{Routine as Signature}
use Rattle.types_tree.specs.declared.variable.Extent.{Extent}
use Rattle.types_value.specs.declared.kind.Kind.{Kind as CType}
use Rattle.types_seen.specs.Growing.{Grows}
use Rattle.types_seen.specs.Seen.{HasType, Knows, Sees}
use Rattle.types_seen.proofs.Growing.{grows_routine}

-- a name in a scope in which another was bound last
lookup_bound : (scope : Scope) (n : ℕ) (b : Binding) (name : ℕ) (c : Binding) → lookup (nat_eq name) (bound scope n b) ≡ Some c → ((name ≡ n) × (b ≡ c)) ⊎ (lookup (nat_eq name) scope ≡ Some c)
lookup_bound [] n b name c e = of (nat_eq name n) refl e
  where
    of : (t : Bool) → nat_eq name n ≡ t → cond t (Some b) None ≡ Some c → ((name ≡ n) × (b ≡ c)) ⊎ (lookup (nat_eq name) [] ≡ Some c)
    of true t e = inl (eqb-true name n t, same_Some b c e)
    of false t e = absurd (none-some c e)
lookup_bound (entry ∷ rest) n b name c e = of (nat_eq n entry.0) refl (λ h. lookup_bound rest n b name c h) e
  where
    replaced : (u : Bool) → n ≡ entry.0 → nat_eq name entry.0 ≡ u → cond u (Some b) (lookup (nat_eq name) rest) ≡ Some c → ((name ≡ n) × (b ≡ c)) ⊎ (cond u (Some entry.1) (lookup (nat_eq name) rest) ≡ Some c)
    replaced true same u e = inl (eqb-true name entry.0 u ∙ sym same, same_Some b c e)
    replaced false same u e = inr e

    behind : (u : Bool) → (lookup (nat_eq name) (bound rest n b) ≡ Some c → ((name ≡ n) × (b ≡ c)) ⊎ (lookup (nat_eq name) rest ≡ Some c)) → cond u (Some entry.1) (lookup (nat_eq name) (bound rest n b)) ≡ Some c → ((name ≡ n) × (b ≡ c)) ⊎ (cond u (Some entry.1) (lookup (nat_eq name) rest) ≡ Some c)
    behind true more e = inr e
    behind false more e = more e

    of : (t : Bool) → nat_eq n entry.0 ≡ t → (lookup (nat_eq name) (bound rest n b) ≡ Some c → ((name ≡ n) × (b ≡ c)) ⊎ (lookup (nat_eq name) rest ≡ Some c)) →
        lookup (nat_eq name) (if t then (entry.0, b) ∷ rest else entry ∷ bound rest n b) ≡ Some c → ((name ≡ n) × (b ≡ c)) ⊎ (lookup (nat_eq name) (entry ∷ rest) ≡ Some c)
    of true t more e = replaced (nat_eq name entry.0) (eqb-true n entry.0 t) refl e
    of false t more e = behind (nat_eq name entry.0) more e

or_else-none : {A : Type 0} (o : Option A) → or_else o None ≡ o
or_else-none (Some x) = refl
or_else-none None = refl

or_else-assoc : {A : Type 0} (a b c : Option A) → or_else (or_else a b) c ≡ or_else a (or_else b c)
or_else-assoc (Some x) b c = refl
or_else-assoc None b c = refl

found_outside-push : (name : ℕ) (outer : List Scope) (scope : Scope) → found_outside name (outer ++ scope ∷ []) ≡ or_else (lookup (nat_eq name) scope) (found_outside name outer)
found_outside-push name [] scope = sym (or_else-none (lookup (nat_eq name) scope))
found_outside-push name (s ∷ rest) scope =
    ap (λ o. or_else o (lookup (nat_eq name) s)) (found_outside-push name rest scope)
    ∙ or_else-assoc (lookup (nat_eq name) scope) (found_outside name rest) (lookup (nat_eq name) s)

pub lookup-new : (name : ℕ) (t : Signature) (xs : List (ℕ × Signature)) → lookup (nat_eq name) xs ≡ None → lookup (nat_eq name) (xs ++ (name, t) ∷ []) ≡ Some t
lookup-new name t [] e = ap (λ b. cond b (Some t) None) (eq-eqb name name refl)
lookup-new name t (x ∷ xs) e = of (nat_eq name x.0) (λ h. lookup-new name t xs h) e
  where
    of : (b : Bool) → (lookup (nat_eq name) xs ≡ None → lookup (nat_eq name) (xs ++ (name, t) ∷ []) ≡ Some t) → cond b (Some x.1) (lookup (nat_eq name) xs) ≡ None → cond b (Some x.1) (lookup (nat_eq name) (xs ++ (name, t) ∷ [])) ≡ Some t
    of true more e = absurd (none-some x.1 (sym e))
    of false more e = more e

-- a function that is declared has a type
pub routine_typed : (name : ℕ) (t : Signature) (a : Around) → HasType name (with_routine name t a)
routine_typed name t a = of (routine_of name a) refl
  where
    of : (o : Option Signature) → routine_of name a ≡ o → (r : Signature) × (lookup (nat_eq name) (with_type o name t a.routines) ≡ Some r)
    of None e = (t, lookup-new name t a.routines e)
    of (Some known) e = (known, e)

abbrev is_routine : Binding → Bool
is_routine (Thing number kind const array) = false
is_routine Routine = true

type_later : (name : ℕ) (a b : Around) → Grows a b → HasType name a → HasType name b
type_later name a b g h = (h.0, g.routines_are name h.0 h.1)

module _ (IsSeen : Binding → Type 0) where
  -- what a name stands for is seen
  pub seen_by : (a : Around) → Sees IsSeen a → (name : ℕ) (binding : Binding) → found name a ≡ Some binding → IsSeen binding
  seen_by a sees name binding e = of (found_here name a) (found_outside name a.outer) refl refl e
    where
      of : (inner outer : Option Binding) → found_here name a ≡ inner → found_outside name a.outer ≡ outer → or_else inner outer ≡ Some binding → IsSeen binding
      of (Some b) outer i o e = sees.here name binding (i ∙ e)
      of None outer i o e = sees.outside name binding (o ∙ e)

  -- a function's name has a type
  pub type_by : (a : Around) → Sees IsSeen a → (name : ℕ) → found name a ≡ Some Routine → HasType name a
  type_by a sees name e = of (found_here name a) (found_outside name a.outer) refl refl e
    where
      of : (inner outer : Option Binding) → found_here name a ≡ inner → found_outside name a.outer ≡ outer → or_else inner outer ≡ Some Routine → HasType name a
      of (Some b) outer i o e = sees.typed name (i ∙ e)
      of None outer i o e = sees.typed_outside name (o ∙ e)

  pub sees_entered : (a : Around) → Sees IsSeen a → Sees IsSeen (entered a)
  sees_entered a s = record {
    here = λ name b e. absurd (none-some b e);
    outside = λ name b e. seen_by a s name b (sym (found_outside-push name a.outer a.scope) ∙ e);
    typed = λ name e. absurd (none-some Routine e);
    typed_outside = λ name e. type_by a s name (sym (found_outside-push name a.outer a.scope) ∙ e);
  }

  -- where the same names are visible
  pub sees_same : (a b : Around) → Grows a b → b.outer ≡ a.outer → b.scope ≡ a.scope → Sees IsSeen a → Sees IsSeen b
  sees_same a b g outer scope s = record {
    here = λ name c e. s.here name c (ap (lookup (nat_eq name)) (sym scope) ∙ e);
    outside = λ name c e. s.outside name c (ap (found_outside name) (sym outer) ∙ e);
    typed = λ name e. type_later name a b g (s.typed name (ap (lookup (nat_eq name)) (sym scope) ∙ e));
    typed_outside = λ name e. type_later name a b g (s.typed_outside name (ap (found_outside name) (sym outer) ∙ e));
  }

  pub sees_object : (name : ℕ) (kind : CType) (const : Bool) (extent : Extent) (a : Around) → Sees IsSeen a → IsSeen (Thing (record { 0 = length a.variables }) kind const (is_array extent)) → Sees IsSeen (with_object name kind const extent a)
  sees_object n kind const extent a s o =
      let b = Thing (record { 0 = length a.variables }) kind const (is_array extent) in
      record {
        here = λ name c e. ⊎_elim
            (λ (hit : (name ≡ n) × (b ≡ c)). subst IsSeen hit.1 o)
            (λ (before : found_here name a ≡ Some c). s.here name c before)
            (lookup_bound a.scope n b name c e);
        outside = s.outside;
        typed = λ name e. ⊎_elim
            (λ (hit : (name ≡ n) × (b ≡ Routine)). absurd (false≢true (ap is_routine hit.1)))
            (λ (before : found_here name a ≡ Some Routine). s.typed name before)
            (lookup_bound a.scope n b name Routine e);
        typed_outside = s.typed_outside;
      }

  pub sees_routine : (name : ℕ) (t : Signature) (a : Around) → IsSeen Routine → Sees IsSeen a → Sees IsSeen (with_routine name t a)
  sees_routine n t a own s =
      let after = with_routine n t a in
      let grows = grows_routine n t a in
      record {
        here = λ name c e. ⊎_elim
            (λ (hit : (name ≡ n) × (Routine ≡ c)). subst IsSeen hit.1 own)
            (λ (before : found_here name a ≡ Some c). s.here name c before)
            (lookup_bound a.scope n Routine name c e);
        outside = s.outside;
        typed = λ name e. ⊎_elim
            (λ (hit : (name ≡ n) × (Routine ≡ Routine)). subst (λ m. HasType m after) (sym hit.0) (routine_typed n t a))
            (λ (before : found_here name a ≡ Some Routine). type_later name a after grows (s.typed name before))
            (lookup_bound a.scope n Routine name Routine e);
        typed_outside = λ name e. type_later name a after grows (s.typed_outside name e);
      }

-- what is known later was known before
pub knows_before : (IsKnown : Outline → (name : ℕ) → Signature → Type 0) (a b : Around) → Grows a b → Knows IsKnown b → Knows IsKnown a
knows_before IsKnown a b g k = record {
  by = λ name r e d. subst (λ o. IsKnown o name r) g.outline_is (k.by name r (g.routines_are name r e) (ap (has_definition name) g.outline_is ∙ d));
}
