-- Scopes as the code's maps have them.
use Rattle.std.proofs.Common.{◌≡◌, refl, ap, ℕ, List, [], ◌∷◌, ◌++◌, map, nat_eq, if◌then◌else◌}
use Rattle.indexmap.specs.IndexMap.{insert_entry}
use Rattle.types_rules.specs.Scope.{Scope, bound, innermost, without_innermost}
use Rattle.types_rules.specs.declared.scope.Binding.{Binding}

pub bound_is : (scope : Scope) (name : ℕ) (binding : Binding) → bound scope name binding ≡ insert_entry nat_eq scope name binding
bound_is [] name binding = refl
bound_is (entry ∷ rest) name binding = ap (λ more. if nat_eq name entry.0 then (entry.0, binding) ∷ rest else entry ∷ more) (bound_is rest name binding)

pub innermost-push : (scopes : List Scope) (scope : Scope) → innermost (scopes ++ scope ∷ []) ≡ scope
innermost-push [] scope = refl
innermost-push (x ∷ []) scope = refl
innermost-push (x ∷ y ∷ rest) scope = innermost-push (y ∷ rest) scope

pub without_innermost-push : (scopes : List Scope) (scope : Scope) → without_innermost (scopes ++ scope ∷ []) ≡ scopes
without_innermost-push [] scope = refl
without_innermost-push (x ∷ []) scope = refl
without_innermost-push (x ∷ y ∷ rest) scope = ap (λ more. x ∷ more) (without_innermost-push (y ∷ rest) scope)

pub innermost-map : {A : Type 0} (f : A → Scope) (xs : List A) (x : A) → innermost (map f (xs ++ x ∷ [])) ≡ f x
innermost-map f [] x = refl
innermost-map f (y ∷ []) x = refl
innermost-map f (y ∷ z ∷ rest) x = innermost-map f (z ∷ rest) x

pub without_innermost-map : {A : Type 0} (f : A → Scope) (xs : List A) (x : A) → without_innermost (map f (xs ++ x ∷ [])) ≡ map f xs
without_innermost-map f [] x = refl
without_innermost-map f (y ∷ []) x = refl
without_innermost-map f (y ∷ z ∷ rest) x = ap (λ more. f y ∷ more) (without_innermost-map f (z ∷ rest) x)
