-- The least address of those in an ascending list that are bad.
use Rattle.std.specs.Prelude.{◌≡◌, ℕ, List, Bool, true, Option, Some, None, Contains, min}
use Rattle.code_flow_system.specs.Reach.{IsLeast}

-- the least number with the property, if there is one
abbrev pub IsLeastOf : (ℕ → Type 0) → Option ℕ → Type 0
IsLeastOf P None = (k : ℕ) → ¬ P k
IsLeastOf P (Some n) = IsLeast P n

-- a bad element stands at the address
abbrev pub IsAtBad : {X : Type 0} → (X → ℕ) → (X → Bool) → List X → ℕ → Type 0
IsAtBad {X} key bad xs a = (x : X) × Contains xs x × (key x ≡ a) × (bad x ≡ true)

abbrev pub lesser : Option ℕ → Option ℕ → Option ℕ
lesser None b = b
lesser (Some a) None = Some a
lesser (Some a) (Some b) = Some (min a b)
