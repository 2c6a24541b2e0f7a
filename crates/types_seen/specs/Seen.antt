-- What the names that are seen at a place of a source stand for.
use Rattle.std.specs.Prelude.{◌≡◌, ℕ, Some, true}
use Rattle.types_rules.specs.Scope.{Around, Outline, found_here, found_outside, routine_of}
use Rattle.types_rules.specs.Types.{has_definition}
use Rattle.types_rules.specs.declared.scope.Binding.{Binding}
use Rattle.types_rules.specs.declared.scope.Binding.TheVariants.{Function}
use Rattle.types_rules.specs.declared.scope.Routine.{Routine}

-- a name with the type of a function
abbrev pub HasType : (name : ℕ) → Around → Type 0
HasType name a = (r : Routine) × (routine_of name a ≡ Some r)

-- what each name stands for is of this kind, in the innermost scope and in those around it
pub record Sees (IsSeen : Binding → Type 0) (a : Around) : Type 0 where
  pub here : (name : ℕ) (binding : Binding) → found_here name a ≡ Some binding → IsSeen binding
  pub outside : (name : ℕ) (binding : Binding) → found_outside name a.outer ≡ Some binding → IsSeen binding
  pub typed : (name : ℕ) → found_here name a ≡ Some Function → HasType name a
  pub typed_outside : (name : ℕ) → found_outside name a.outer ≡ Some Function → HasType name a

-- each function that was declared so far and is defined somewhere is known in this way
pub record Knows (IsKnown : Outline → (name : ℕ) → Routine → Type 0) (a : Around) : Type 0 where
  pub by : (name : ℕ) (r : Routine) → routine_of name a ≡ Some r → has_definition name a.outline ≡ true → IsKnown a.outline name r
